-- Digits in the opposite order: each law is an equation of every digit. Assumes nothing.
use mathlib.Core.Path.{◌≡◌, sym, ap, ap₂, ◌∙◌}
use Prim.Native.Nat.{ℕ, zero, suc, ◌+◌, ◌-◌, ◌*◌, ◌/◌, ◌%◌, ◌^◌, ◌≤◌, ◌<◌}
use native.Mathlib.Nat.{mod-mod, mod-lt, pow-suc, pow-succ', div-add-mod', le_refl}
use native.Mathlib.Decide.{dec_lt}
use native.Mathlib.Omega.{arith}
use lib.Arith.{digits_div, digits_lt}
use lib.Pow.{pow-add}
use Rattle.digits.specs.Digits.{digit, reversed, plus}
use Rattle.digits.proofs.Digit.{pow_pos, digit_lt, digit_low, digit_zero, digit-suc, digit_cons_low, digit_cons_suc}
use Rattle.digits.proofs.Digit.{digit-mod, digit-from_digits, from_digits_lt, ext_below, digit-join-low, digit-join-high}
use Rattle.digits.proofs.Arithmetic.{digit-plus, plus_lt}

module _ {b : ℕ} (big : 1 < b) where
  pub reversed_lt : (n i : ℕ) → reversed b n i < b ^ n
  unfolding reversed
  reversed_lt n i = from_digits_lt big n _

  pub digit-reversed : (n i k : ℕ) → k < n → digit b k (reversed b n i) ≡ digit b (n - suc k) i
  unfolding reversed
  digit-reversed n i k h = digit-from_digits big n k (λ k. digit b (n - suc k) i) h ∙ mod-mod (i / b ^ (n - suc k)) b

  -- a number of n digits is the reversal of i if each of its digits is
  is_reversed : (n i r : ℕ) → r < b ^ n → ((k : ℕ) → k < n → digit b k r ≡ digit b (n - suc k) i) → reversed b n i ≡ r
  is_reversed n i r h at = ext_below big n (reversed b n i) r (reversed_lt n i) h (λ k l. digit-reversed n i k l ∙ sym (at k l))

  pub reversed-zero : (n : ℕ) → reversed b n 0 ≡ 0
  reversed-zero n = is_reversed n 0 0 (pow_pos big n) (λ k l. digit_zero big k ∙ sym (digit_zero big (n - suc k)))

  -- only the lowest n digits count
  pub reversed-mod : (m n i : ℕ) → n ≤ m → reversed b n (i % b ^ m) ≡ reversed b n i
  reversed-mod m n i l = is_reversed n (i % b ^ m) (reversed b n i) (reversed_lt n i) (λ k h.
      digit-reversed n i k h ∙ sym (digit-mod big (n - suc k) m i (omega arith)))

  pub reversed-join : (m n k p : ℕ) → p < b ^ m → reversed b (m + n) (k * b ^ m + p) ≡ reversed b m p * b ^ n + reversed b n k
  reversed-join m n k p h =
      is_reversed (m + n) (k * b ^ m + p) (reversed b m p * b ^ n + reversed b n k)
      (rw (pow-add b m n) (digits_lt (reversed_lt m p) (reversed_lt n k))) (λ j l. go j l (dec_lt j n))
    where
      go : (j : ℕ) → j < m + n → Dec (j < n) → digit b j (reversed b m p * b ^ n + reversed b n k) ≡ digit b (m + n - suc j) (k * b ^ m + p)
      go j l (yes low) =
          let e : m + n - suc j ≡ m + (n - suc j) = omega arith in
          digit-join-low big j n (reversed b m p) (reversed b n k) (reversed_lt n k) low ∙ digit-reversed n k j low
          ∙ sym (ap (λ (x : ℕ). digit b x (k * b ^ m + p)) e ∙ digit-join-high big (n - suc j) m k p h)
      go j l (no high) =
          let at : j ≡ n + (j - n) = omega arith in
          let e : m + n - suc j ≡ m - suc (j - n) = omega arith in
          ap (λ (x : ℕ). digit b x (reversed b m p * b ^ n + reversed b n k)) at
          ∙ digit-join-high big (j - n) n (reversed b m p) (reversed b n k) (reversed_lt n k)
          ∙ digit-reversed m p (j - n) (omega arith)
          ∙ sym (ap (λ (x : ℕ). digit b x (k * b ^ m + p)) e ∙ digit-join-low big (m - suc (j - n)) m k p h (omega arith))

  pub reversed-twice : (n i : ℕ) → i < b ^ n → reversed b n (reversed b n i) ≡ i
  reversed-twice n i h = is_reversed n (reversed b n i) i h (λ k l.
      let e : n - suc (n - suc k) ≡ k = omega arith in
      sym (digit-reversed n i (n - suc k) (omega arith) ∙ ap (λ (x : ℕ). digit b x i) e))

  -- fewer digits by the reversal of more
  pub reversed-short : (m n p : ℕ) → p < b ^ m → reversed b (m + n) p / b ^ n ≡ reversed b m p
  reversed-short m n p h =
      let e : p ≡ 0 * b ^ m + p = omega arith in
      ap (λ (x : ℕ). x / b ^ n) (ap (reversed b (m + n)) e ∙ reversed-join m n 0 p h)
      ∙ digits_div (reversed b m p) (reversed_lt n 0)

  -- the m lowest digits come first, those above them last
  pub reversed-parts : (m n i : ℕ) → reversed b (m + n) i ≡ reversed b m i * b ^ n + reversed b n (i / b ^ m)
  reversed-parts m n i =
      ap (reversed b (m + n)) (sym (div-add-mod' i (b ^ m)))
      ∙ reversed-join m n (i / b ^ m) (i % b ^ m) (mod-lt i (pow_pos big m))
      ∙ ap (λ (x : ℕ). x * b ^ n + reversed b n (i / b ^ m)) (reversed-mod m m i (le_refl m))

  -- one digit more: the new highest of i comes last, the lowest of i comes first
  pub reversed-more : (n i : ℕ) → reversed b (suc n) i ≡ reversed b n i * b + digit b n i
  reversed-more n i = is_reversed (suc n) i (reversed b n i * b + digit b n i)
      (rw pow-suc (digits_lt (reversed_lt n i) (mod-lt (i / b ^ n) (omega arith)))) go
    where
      go : (k : ℕ) → k < suc n → digit b k (reversed b n i * b + digit b n i) ≡ digit b (suc n - suc k) i
      go zero l =
          let e : suc n - 1 ≡ n = omega arith in
          digit_cons_low big (reversed b n i) (digit b n i) (digit_lt big n i) ∙ ap (λ (x : ℕ). digit b x i) (sym e)
      go (suc k) l =
          let e : n - suc k ≡ suc n - suc (suc k) = omega arith in
          digit_cons_suc big k (reversed b n i) (digit b n i) (digit_lt big n i) ∙ digit-reversed n i k (omega arith) ∙ ap (λ (x : ℕ). digit b x i) e

  pub reversed-suc : (n i : ℕ) → reversed b (suc n) i ≡ i % b * b ^ n + reversed b n (i / b)
  reversed-suc n i = is_reversed (suc n) i (i % b * b ^ n + reversed b n (i / b))
      (rw pow-succ' (digits_lt (mod-lt i (omega arith)) (reversed_lt n (i / b)))) (λ k l. go k l (dec_lt k n))
    where
      go : (k : ℕ) → k < suc n → Dec (k < n) → digit b k (i % b * b ^ n + reversed b n (i / b)) ≡ digit b (suc n - suc k) i
      go k l (yes low) =
          let e : suc (n - suc k) ≡ suc n - suc k = omega arith in
          digit-join-low big k n (i % b) (reversed b n (i / b)) (reversed_lt n (i / b)) low ∙ digit-reversed n (i / b) k low
          ∙ sym (digit-suc big (n - suc k) i) ∙ ap (λ (x : ℕ). digit b x i) e
      go k l (no high) =
          let at : k ≡ n + 0 = omega arith in
          let e : suc n - suc k ≡ 0 = omega arith in
          ap (λ (x : ℕ). digit b x (i % b * b ^ n + reversed b n (i / b))) at
          ∙ digit-join-high big 0 n (i % b) (reversed b n (i / b)) (reversed_lt n (i / b))
          ∙ digit_low big (i % b) ∙ mod-mod i b ∙ sym (digit_low big i) ∙ ap (λ (x : ℕ). digit b x i) (sym e)

  pub reversed-plus : (n i j : ℕ) → reversed b n (plus b i j) ≡ plus b (reversed b n i) (reversed b n j)
  reversed-plus n i j =
      is_reversed n (plus b i j) (plus b (reversed b n i) (reversed b n j))
      (plus_lt big n (reversed b n i) (reversed b n j) (reversed_lt n i) (reversed_lt n j)) (λ k l.
      digit-plus big (reversed b n i) (reversed b n j) k
      ∙ ap₂ (λ (x y : ℕ). (x + y) % b) (digit-reversed n i k l) (digit-reversed n j k l)
      ∙ sym (digit-plus big i j (n - suc k)))
