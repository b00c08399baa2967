-- Clearing by one entry more is one step of the model's `solve`. Assumes nothing.
use mathlib.Core.Path.{◌≡◌, sym, ap, ap₂, ◌∙◌}
use mathlib.Core.List.{List}
use Prim.Native.Nat.{ℕ, suc, ◌+◌, ◌*◌, ◌/◌, ◌%◌, ◌^◌}
use native.Mathlib.Nat.{mul-one}
use native.Mathlib.Numerals.{add-one}
use native.Mathlib.Omega.{arith}
use lib.Bits.{bit_xor}
use lib.Count.{count_trailing_zeros}
use lib.ListN.{get_or}
use Rattle.digits.specs.Digits.{digit, plus, minus, times}
use Rattle.digits.proofs.Arithmetic.{plus_assoc, plus-zero, minus_minus, minus-of-zero}
use Rattle.digits.proofs.Two.{one_lt_two, plus-two, minus-two}
use Rattle.net.specs.Elimination.{Additive, reduce, solve}
use Rattle.net.proofs.Additive.{of-minus, of-times, of_zero}
use Rattle.net.proofs.Reduction.{solve-rest}
use Rattle.word.proofs.Turn.{times_bit}
use Rattle.elimination.specs.Basis.{entries, Images, Swept, Sweeps}

module _ (words indexes : List ℕ) (v k : ℕ) where
  pub sweep_none : Sweeps words indexes 0 v k v k
  unfolding solve entries
  sweep_none L A images = record {
    moved = sym (plus-zero one_lt_two k);
    rest = sym (ap (minus 2 v) (of_zero A) ∙ minus-of-zero one_lt_two v);
  }

  -- the code's bit, and its two exclusive ors
  pub sweep_more : (t word index : ℕ) → Sweeps words indexes t v k word index
      → Sweeps words indexes (t + 1) v k
      (bit_xor word (get_or words t 0 * (word / 2 ^ count_trailing_zeros 32 (get_or words t 0) % 2)))
      (bit_xor index (get_or indexes t 0 * (word / 2 ^ count_trailing_zeros 32 (get_or words t 0) % 2)))
  unfolding solve entries
  sweep_more t word index old L A images = rw (add-one t) (record { moved = moved; rest = rest })
    where
      p : ℕ
      p = solve 2 L (entries words indexes t) v

      q : ℕ
      q = count_trailing_zeros 32 (get_or words t 0)

      d : ℕ
      d = digit 2 q word

      before : Swept words indexes t v k word index L
      before = old L A (λ s h. images s (omega arith))

      coefficient : digit 2 q (minus 2 v (L p)) * 1 ≡ d
      coefficient = mul-one (digit 2 q (minus 2 v (L p))) ∙ ap (digit 2 q) (sym before.rest)

      next : plus 2 p (times 2 (digit 2 q (minus 2 v (L p)) * 1) (get_or indexes t 0)) ≡ plus 2 p (times 2 d (get_or indexes t 0))
      next = ap (λ (x : ℕ). plus 2 p (times 2 x (get_or indexes t 0))) coefficient

      image : L (plus 2 p (times 2 d (get_or indexes t 0))) ≡ plus 2 (L p) (times 2 d (get_or words t 0))
      image =
          A.splits p (times 2 d (get_or indexes t 0))
          ∙ ap (plus 2 (L p)) (of-times A d (get_or indexes t 0) ∙ ap (times 2 d) (sym (images t (omega arith))))

      moved : bit_xor index (get_or indexes t 0 * (word / 2 ^ q % 2)) ≡ plus 2 k (solve 2 L (entries words indexes (suc t)) v)
      moved =
          sym (plus-two index (get_or indexes t 0 * (word / 2 ^ q % 2)))
          ∙ ap₂ (plus 2) before.moved (times_bit (get_or indexes t 0) (word / 2 ^ q))
          ∙ plus_assoc one_lt_two k p (times 2 d (get_or indexes t 0))
          ∙ ap (plus 2 k) (sym next)

      rest : bit_xor word (get_or words t 0 * (word / 2 ^ q % 2)) ≡ minus 2 v (L (solve 2 L (entries words indexes (suc t)) v))
      rest =
          sym (minus-two word (get_or words t 0 * (word / 2 ^ q % 2)))
          ∙ ap₂ (minus 2) before.rest (times_bit (get_or words t 0) (word / 2 ^ q))
          ∙ minus_minus one_lt_two v (L p) (times 2 d (get_or words t 0))
          ∙ ap (minus 2 v) (sym image ∙ ap L (sym next))

-- an index cleared together with its own image is the model's `reduce`
module _ {L : ℕ → ℕ} (A : Additive 2 L) (words indexes : List ℕ) (n e word index : ℕ) (images : Images L words indexes n)
    (swept : Sweeps words indexes n (L e) e word index) where
  S : Swept words indexes n (L e) e word index L
  S = swept L A images

  abbrev p : ℕ
  p = solve 2 L (entries words indexes n) (L e)

  pub reduced : index ≡ reduce 2 L (entries words indexes n) e
  reduced = S.moved ∙ plus-two e p ∙ sym (minus-two e p) ∙ solve-rest A (entries words indexes n) e

  pub imaged : word ≡ L index
  imaged = S.rest ∙ sym (of-minus A e p) ∙ ap L (minus-two e p ∙ sym (plus-two e p) ∙ sym S.moved)
