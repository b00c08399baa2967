-- Decimal text reads back as its number: by induction on the digits, one division by 10 a step.
-- Assumes nothing.
use mathlib.Core.Path.{◌≡◌, refl, ap, ◌∙◌}
use mathlib.Core.Bool.{Bool, true, false, cond}
use mathlib.Core.List.{List, [], ◌∷◌, ◌++◌}
use Prim.Native.Nat.{ℕ, zero, suc, ◌+◌, ◌-◌, ◌*◌, ◌/◌, ◌%◌, ◌^◌, ◌≤◌, ◌<◌}
use native.Mathlib.Nat.{div-lt_iff_lt-mul, lt_of_lt_of_le, pow-suc}
use native.Mathlib.Omega.{arith}
use borrow.Author.Tests.{ltb-true, ltb-false}
use lib.Dec.{ltb, lit<, lit≤}
use lib.ListN.{get_or}
use Rattle.text.specs.Ascii.{digit_zero}
use Rattle.text.specs.Decimal.{decimal_in, decimal}
use Rattle.text.specs.Theorem.{read_on, AllDigits}

-- reading one digit more
read_on_last : (before : ℕ) (ds : List ℕ) (d : ℕ) → read_on before (ds ++ (d ∷ [])) ≡ read_on before ds * 10 + (d - digit_zero)
unfolding read_on
read_on_last before [] d = refl
read_on_last before (e ∷ ds) d = read_on_last (before * 10 + (e - digit_zero)) ds d

-- n / 10 has a digit fewer
pub fewer : (f n : ℕ) → n < 10 ^ suc (suc f) → n / 10 < 10 ^ suc f
fewer f n h = let p : 10 ^ suc (suc f) ≡ 10 ^ suc f * 10 = pow-suc 10 (suc f) in (div-lt_iff_lt-mul (lit< tt)).1 (omega (arith, p, h))

-- a number of at most f + 1 digits
reads : (f n : ℕ) → n < 10 ^ suc f → read_on 0 (decimal_in f n) ≡ n
unfolding decimal_in read_on
reads zero n h = omega arith
reads (suc f) n h = go (ltb n 10) refl (reads f (n / 10) (fewer f n h))
  where
    back : (n : ℕ) → n / 10 * 10 + (digit_zero + n % 10 - digit_zero) ≡ n
    back n = omega arith

    go : (b : Bool) → ltb n 10 ≡ b → read_on 0 (decimal_in f (n / 10)) ≡ n / 10
        → read_on 0 (cond b ((digit_zero + n) ∷ []) (decimal_in f (n / 10) ++ ((digit_zero + n % 10) ∷ []))) ≡ n
    go true e r = omega arith
    go false e r =
        read_on_last 0 (decimal_in f (n / 10)) (digit_zero + n % 10) ∙ ap (λ (v : ℕ). v * 10 + (digit_zero + n % 10 - digit_zero)) r ∙ back n

head-append : (xs ys : List ℕ) → digit_zero < get_or xs 0 0 → digit_zero < get_or (xs ++ ys) 0 0
head-append [] ys h = absurd (omega arith)
head-append (x ∷ xs) ys h = h

leads : (f n : ℕ) → 0 < n → n < 10 ^ suc f → digit_zero < get_or (decimal_in f n) 0 0
unfolding decimal_in
leads zero n p h = omega arith
leads (suc f) n p h = go (ltb n 10) refl (λ q. leads f (n / 10) q (fewer f n h))
  where
    some : (n : ℕ) → 10 ≤ n → 0 < n / 10
    some n h = omega arith

    go : (b : Bool) → ltb n 10 ≡ b → (0 < n / 10 → digit_zero < get_or (decimal_in f (n / 10)) 0 0)
        → digit_zero < get_or (cond b ((digit_zero + n) ∷ []) (decimal_in f (n / 10) ++ ((digit_zero + n % 10) ∷ []))) 0 0
    go true e more = omega arith
    go false e more = head-append (decimal_in f (n / 10)) ((digit_zero + n % 10) ∷ []) (more (some n (ltb-false n 10 e)))

pub reads_back : (n : ℕ) → n < 2 ^ 32 → read_on 0 (decimal n) ≡ n
reads_back n h = reads 9 n (lt_of_lt_of_le h (lit≤ tt))

pub no_zero_leads : (n : ℕ) → 0 < n → n < 2 ^ 32 → digit_zero < get_or (decimal n) 0 0
no_zero_leads n p h = leads 9 n p (lt_of_lt_of_le h (lit≤ tt))

digits_append : (ds es : List ℕ) → AllDigits ds → AllDigits es → AllDigits (ds ++ es)
digits_append [] es p q = q
digits_append (d ∷ ds) es p q = (p.0, digits_append ds es p.1 q)

digit : (k : ℕ) → k < 10 → AllDigits ((digit_zero + k) ∷ [])
digit k h = ((omega arith, omega arith), tt)

rest : (n : ℕ) → n % 10 < 10
rest n = omega arith

digits_in : (f n : ℕ) → AllDigits (decimal_in f n)
unfolding decimal_in
digits_in zero n = digit (n % 10) (rest n)
digits_in (suc f) n = go (ltb n 10) refl (digits_in f (n / 10))
  where
    go : (b : Bool) → ltb n 10 ≡ b → AllDigits (decimal_in f (n / 10))
        → AllDigits (cond b ((digit_zero + n) ∷ []) (decimal_in f (n / 10) ++ ((digit_zero + n % 10) ∷ [])))
    go true e r = digit n (ltb-true n 10 e)
    go false e r = digits_append (decimal_in f (n / 10)) ((digit_zero + n % 10) ∷ []) r (digit (n % 10) (rest n))

pub all_digits : (n : ℕ) → AllDigits (decimal n)
all_digits n = digits_in 9 n
