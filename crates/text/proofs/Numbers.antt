-- The lengths of texts, and their largest values.
-- Assumes nothing.
use mathlib.Core.Path.{◌≡◌, refl, ap, ◌∙◌}
use mathlib.Core.Bool.{Bool, true, false, cond}
use mathlib.Core.List.{[], ◌∷◌, ◌++◌}
use Prim.Native.Nat.{ℕ, zero, suc, ◌+◌, ◌*◌, ◌/◌, ◌%◌, ◌^◌, ◌≤◌, ◌<◌}
use native.Mathlib.Nat.{le-div_iff_mul-le, one-le-pow, pow-suc}
use native.Mathlib.Omega.{arith}
use borrow.Author.Tests.{lt-ltb, le-ltb, ltb-false}
use lib.Dec.{ltb, lit<}
use lib.IntN.{ℤ, pos, negsuc, nat_abs}
use lib.ListN.{length, length-append}
use Rattle.text.specs.Ascii.{digit_zero}
use Rattle.text.specs.Decimal.{decimal_in, decimal, sign, signed_decimal, number_text, signed_text, longest_number, longest_signed}
use Rattle.text.proofs.Back.{fewer}

decimal-length : (f n : ℕ) → length (decimal_in f n) ≤ suc f
unfolding decimal_in
decimal-length zero n = omega arith
decimal-length (suc f) n = go (ltb n 10) (decimal-length f (n / 10))
  where
    go : (b : Bool) → length (decimal_in f (n / 10)) ≤ suc f
        → length (cond b ((digit_zero + n) ∷ []) (decimal_in f (n / 10) ++ ((digit_zero + n % 10) ∷ []))) ≤ suc (suc f)
    go true h = omega arith
    go false h = omega (arith, length-append (decimal_in f (n / 10)) ((digit_zero + n % 10) ∷ []))

-- a number from 10 ^ g on and below 10 ^ (g + 1) has g + 1 digits; the number 0 has one
digits_in : (f g n : ℕ) → g ≤ f → n < 10 ^ suc g → (0 < g → 10 ^ g ≤ n) → length (decimal_in f n) ≡ suc g
unfolding decimal_in
digits_in zero zero n d h l = refl
digits_in zero (suc g) n d h l = absurd (omega arith)
digits_in (suc f) zero n d h l = simp (lt-ltb n 10 h)
digits_in (suc f) (suc g) n d h l =
    let p : 10 ^ suc g ≡ 10 ^ g * 10 = pow-suc 10 g in
    let some : 0 < 10 ^ g = one-le-pow g 10 (lit< tt) in
    let low : 10 ^ suc g ≤ n = l (omega arith) in
    let ten : 10 ≤ n = omega (arith, p, some, low) in
    let more : 10 ^ g ≤ n / 10 = (le-div_iff_mul-le (lit< tt)).1 (omega (arith, p, low)) in
    simp (le-ltb n 10 ten) (length-append (decimal_in f (n / 10)) ((digit_zero + n % 10) ∷ [])
    ∙ ap (λ (k : ℕ). k + 1) (digits_in f g (n / 10) (omega arith) (fewer g n h) (λ q. more)) ∙ omega arith)

pub digits_of : (g n : ℕ) → g ≤ 9 → n < 10 ^ suc g → (0 < g → 10 ^ g ≤ n) → length (decimal n) ≡ suc g
digits_of g n = digits_in 9 g n

pub decimal_longest : (n : ℕ) → length (decimal n) ≤ 10
decimal_longest n = decimal-length 9 n

-- a number below 10 ^ (g + 1) has at most g + 1 digits
decimal_in-short : (f g n : ℕ) → n < 10 ^ suc g → length (decimal_in f n) ≤ suc g
unfolding decimal_in
decimal_in-short zero g n h = omega arith
decimal_in-short (suc f) g n h = go (ltb n 10) refl g h (decimal_in-short f)
  where
    go : (b : Bool) → ltb n 10 ≡ b → (g : ℕ) → n < 10 ^ suc g → ((g n : ℕ) → n < 10 ^ suc g → length (decimal_in f n) ≤ suc g)
        → length (cond b ((digit_zero + n) ∷ []) (decimal_in f (n / 10) ++ ((digit_zero + n % 10) ∷ []))) ≤ suc g
    go true e g h more = omega arith
    go false e zero h more = absurd (omega (arith, ltb-false n 10 e))
    go false e (suc g) h more =
        omega (arith, length-append (decimal_in f (n / 10)) ((digit_zero + n % 10) ∷ []), more g (n / 10) (fewer g n h))

pub decimal-short : (g n : ℕ) → n < 10 ^ suc g → length (decimal n) ≤ suc g
decimal-short g n h = decimal_in-short 9 g n h

-- every number has a digit
decimal_in-some : (f n : ℕ) → 0 < length (decimal_in f n)
unfolding decimal_in
decimal_in-some zero n = omega arith
decimal_in-some (suc f) n = go (ltb n 10)
  where
    go : (b : Bool) → 0 < length (cond b ((digit_zero + n) ∷ []) (decimal_in f (n / 10) ++ ((digit_zero + n % 10) ∷ [])))
    go true = omega arith
    go false = omega (arith, length-append (decimal_in f (n / 10)) ((digit_zero + n % 10) ∷ []))

pub decimal-some : (n : ℕ) → 0 < length (decimal n)
decimal-some n = decimal_in-some 9 n

pub number-length : (n last : ℕ) → length (number_text n last) ≡ length (decimal n) + 1
unfolding number_text
number-length n last = length-append (decimal n) (last ∷ [])

pub number_longest : (n last : ℕ) → length (number_text n last) ≤ longest_number
number_longest n last = omega (arith, number-length n last, decimal_longest n)

sign-length : (z : ℤ) → length (sign z) ≤ 1
sign-length (pos n) = omega arith
sign-length (negsuc n) = omega arith

pub signed_decimal_longest : (z : ℤ) → length (signed_decimal z) ≤ 11
signed_decimal_longest z = omega (arith, length-append (sign z) (decimal (nat_abs z)), sign-length z, decimal_longest (nat_abs z))

-- a sign more than the magnitude
pub signed_short : (g : ℕ) (z : ℤ) → nat_abs z < 10 ^ suc g → length (signed_decimal z) ≤ suc (suc g)
signed_short g z h = omega (arith, length-append (sign z) (decimal (nat_abs z)), sign-length z, decimal-short g (nat_abs z) h)

pub signed_length : (z : ℤ) (last : ℕ) → length (signed_text z last) ≡ length (sign z) + length (number_text (nat_abs z) last)
unfolding signed_text
signed_length z last = length-append (sign z) (number_text (nat_abs z) last)

pub signed_longest : (z : ℤ) (last : ℕ) → length (signed_text z last) ≤ longest_signed
signed_longest z last = omega (arith, signed_length z last, sign-length z, number_longest (nat_abs z) last)
