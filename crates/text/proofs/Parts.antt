-- The digits of a number by groups: the last two or four, and those before them.
-- Assumes nothing.
use mathlib.Core.Path.{◌≡◌, sym, ap, ap₂, ◌∙◌, subst}
use mathlib.Core.Bool.{cond}
use mathlib.Core.List.{List, [], ◌∷◌, ◌++◌, append_assoc}
use Prim.Native.Nat.{ℕ, zero, suc, ◌+◌, ◌/◌, ◌%◌, ◌^◌, ◌≤◌, ◌<◌}
use native.Mathlib.Omega.{arith}
use borrow.Author.Tests.{lt-ltb, le-ltb}
use lib.Dec.{ltb}
use lib.ListN.{length, length-append}
use Rattle.text.specs.Ascii.{digit_zero}
use Rattle.text.specs.Decimal.{decimal_in, decimal, two_digits, four_digits}
use Rattle.text.proofs.Puts.{Writes, writes_then}
use Rattle.text.proofs.Back.{fewer}

one : (f n : ℕ) → n < 10 → decimal_in (suc f) n ≡ (digit_zero + n) ∷ []
unfolding decimal_in
one f n h = simp (lt-ltb n 10 h)

more : (f n : ℕ) → 10 ≤ n → decimal_in (suc f) n ≡ decimal_in f (n / 10) ++ ((digit_zero + n % 10) ∷ [])
unfolding decimal_in
more f n h = simp (le-ltb n 10 h)

-- allowing more digits than n has changes nothing
enough : (f n : ℕ) → n < 10 ^ suc f → decimal_in (suc f) n ≡ decimal_in f n
unfolding decimal_in
enough zero n h = let e : n ≡ n % 10 = omega arith in one zero n (omega arith) ∙ ap (λ (k : ℕ). (digit_zero + k) ∷ []) e
enough (suc f) n h =
    ap (λ (s : List ℕ). cond (ltb n 10) ((digit_zero + n) ∷ []) (s ++ ((digit_zero + n % 10) ∷ []))) (enough f (n / 10) (fewer f n h))

pub decimal-below_10 : (n : ℕ) → n < 10 → decimal n ≡ (digit_zero + n) ∷ []
decimal-below_10 n h = one 8 n h

decimal-more : (n : ℕ) → 10 ≤ n → n < 2 ^ 32 → decimal n ≡ decimal (n / 10) ++ ((digit_zero + n % 10) ∷ [])
decimal-more n h l =
    let b : n / 10 < 10 ^ 9 = omega arith in
    more 8 n h ∙ ap (λ (s : List ℕ). s ++ ((digit_zero + n % 10) ∷ [])) (sym (enough 8 (n / 10) b))

pub decimal-below_100 : (n : ℕ) → 10 ≤ n → n < 100 → decimal n ≡ two_digits n
decimal-below_100 n h l =
    let b : n / 10 < 10 = omega arith in
    let s : n < 2 ^ 32 = omega arith in
    decimal-more n h s ∙ ap (λ (s : List ℕ). s ++ ((digit_zero + n % 10) ∷ [])) (decimal-below_10 (n / 10) b)

-- n without its last group c is m, and m without its last group b is k; so n is k with two groups more
parts : (g : ℕ → List ℕ) (n m k b c : ℕ) → decimal n ≡ decimal m ++ g c → decimal m ≡ decimal k ++ g b
    → (k' b' c' : ℕ) → k ≡ k' → b ≡ b' → c ≡ c' → decimal n ≡ decimal k' ++ (g b' ++ g c')
parts g n m k b c p q k' b' c' x y z =
    p ∙ ap (λ (s : List ℕ). s ++ g c) q ∙ append_assoc (decimal k) (g b) (g c)
    ∙ ap₂ (λ (i : ℕ) (s : List ℕ). decimal i ++ s) x (ap₂ (λ (i j : ℕ). g i ++ g j) y z)

pub decimal_last_two : (n : ℕ) → 100 ≤ n → n < 2 ^ 32 → decimal n ≡ decimal (n / 100) ++ two_digits (n % 100)
decimal_last_two n h l =
    parts (λ (d : ℕ). (digit_zero + d) ∷ []) n (n / 10) (n / 10 / 10) (n / 10 % 10) (n % 10) (decimal-more n (omega arith) l)
    (decimal-more (n / 10) (omega arith) (omega arith)) (n / 100) (n % 100 / 10) (n % 100 % 10) (omega arith) (omega arith) (omega arith)

pub decimal_last_four : (n : ℕ) → 10000 ≤ n → n < 2 ^ 32 → decimal n ≡ decimal (n / 10000) ++ four_digits (n % 10000)
decimal_last_four n h l =
    parts two_digits n (n / 100) (n / 100 / 100) (n / 100 % 100) (n % 100) (decimal_last_two n (omega arith) l)
    (decimal_last_two (n / 100) (omega arith) (omega arith)) (n / 10000) (n % 10000 / 100) (n % 10000 % 100) (omega arith) (omega arith) (omega arith)

pub length_last_two : (n : ℕ) → 100 ≤ n → n < 2 ^ 32 → length (decimal n) ≡ length (decimal (n / 100)) + 2
length_last_two n h l = ap length (decimal_last_two n h l) ∙ length-append (decimal (n / 100)) (two_digits (n % 100))

pub length_last_four : (n : ℕ) → 10000 ≤ n → n < 2 ^ 32 → length (decimal n) ≡ length (decimal (n / 10000)) + 4
length_last_four n h l = ap length (decimal_last_four n h l) ∙ length-append (decimal (n / 10000)) (four_digits (n % 10000))

-- a writer of each part is a writer of the text
writes_parts : (d : List ℕ) (at : ℕ) (s t u : List ℕ) (r : ℕ) (e : List ℕ) (r' : ℕ) (e' : List ℕ)
    → u ≡ s ++ t → Writes d at s r e → Writes e r t r' e' → at + length u ≤ length d → Writes d at u r' e'
writes_parts d at s t u r e r' e' w p q h =
    let l : at + length s + length t ≤ length d = omega (arith, h, ap length w, length-append s t) in
    subst (λ (x : List ℕ). Writes d at x r' e') (sym w) (writes_then d at s t r e r' e' p q l)

module _ (d : List ℕ) (at n r : ℕ) (e : List ℕ) (r' : ℕ) (e' : List ℕ) (l : n < 2 ^ 32) (h : at + length (decimal n) ≤ length d) where
  pub writes_last_two : 100 ≤ n → Writes d at (decimal (n / 100)) r e → Writes e r (two_digits (n % 100)) r' e' → Writes d at (decimal n) r' e'
  writes_last_two b p q = writes_parts d at (decimal (n / 100)) (two_digits (n % 100)) (decimal n) r e r' e' (decimal_last_two n b l) p q h

  pub writes_last_four : 10000 ≤ n → Writes d at (decimal (n / 10000)) r e → Writes e r (four_digits (n % 10000)) r' e'
      → Writes d at (decimal n) r' e'
  writes_last_four b p q = writes_parts d at (decimal (n / 10000)) (four_digits (n % 10000)) (decimal n) r e r' e' (decimal_last_four n b l) p q h
