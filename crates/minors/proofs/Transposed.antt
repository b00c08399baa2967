-- A row of a matrix as a word, bit by bit from the highest. Assumes nothing.
use mathlib.Core.Path.{◌≡◌, ap, ◌∙◌}
use Prim.Native.Nat.{ℕ, zero, suc, ◌+◌, ◌-◌, ◌*◌, ◌^◌, ◌≤◌, ◌<◌}
use native.Mathlib.Nat.{pow-suc, lt_of_lt_of_le}
use native.Mathlib.Omega.{arith}
use lib.Pow.{pow_mono}
use Rattle.digits.specs.Digits.{digit}
use Rattle.digits.proofs.Digit.{pow_pos, digit_cons_low, digit_cons_suc}
use Rattle.digits.proofs.Two.{one_lt_two}

-- the bits d c, d (c + 1), .., d 31 are in the word
pub record From (d : ℕ → ℕ) (c word : ℕ) : Type 0 where
  pub small : word < 2 ^ (32 - c)
  pub bits : (k : ℕ) → k < 32 - c → digit 2 k word ≡ d (c + k)

module _ {d : ℕ → ℕ} where
  pub from-none : From d 32 0
  from-none = record { small = pow_pos one_lt_two 0; bits = λ k h. absurd (omega arith) }

  module _ {c word : ℕ} (now : From d c word) where
    pub from-fits : 0 < c → word < 2 ^ 31
    from-fits h = let l : 32 - c ≤ 31 = omega arith in lt_of_lt_of_le now.small (pow_mono l)

    pub from_more : (bit : ℕ) → 0 < c → c ≤ 32 → bit ≡ d (c - 1) → bit < 2 → From d (c - 1) (word * 2 + bit)
    from_more bit p h is b = record { small = small; bits = bits }
      where
        small : word * 2 + bit < 2 ^ (32 - (c - 1))
        small =
            let e : 32 - (c - 1) ≡ suc (32 - c) = omega arith in
            let f = now.small in
            rw (e, pow-suc 2 (32 - c)) (omega arith)

        bits : (k : ℕ) → k < 32 - (c - 1) → digit 2 k (word * 2 + bit) ≡ d (c - 1 + k)
        bits zero l = let e : c - 1 ≡ c - 1 + 0 = omega arith in digit_cons_low one_lt_two word bit b ∙ is ∙ ap d e
        bits (suc k) l =
            let e : c + k ≡ c - 1 + suc k = omega arith in
            digit_cons_suc one_lt_two k word bit b ∙ now.bits k (omega arith) ∙ ap d e

    pub from_all : c ≡ 0 → (k : ℕ) → k < 32 → digit 2 k word ≡ d k
    from_all z k h = let e : c + k ≡ k = omega arith in now.bits k (omega arith) ∙ ap d e
