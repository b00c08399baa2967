-- Flips and then a shift: the law, what undoes them, and what they add to a word, from its top byte. Assumes nothing.
use mathlib.Core.Path.{◌≡◌, sym, ap, ◌∙◌}
use mathlib.Core.List.{List, map}
use Prim.Native.Nat.{ℕ, ◌+◌, ◌*◌, ◌/◌, ◌^◌, ◌<◌}
use native.Mathlib.Omega.{arith}
use lib.Bits.{bit_xor}
use lib.ListN.{get_or}
use Rattle.ranges.specs.Range.{range}
use Rattle.ranges.proofs.Range.{getD_each}
use Rattle.digits.specs.Digits.{plus, minus}
use Rattle.digits.proofs.Arithmetic.{plus_assoc}
use Rattle.digits.proofs.Two.{one_lt_two, plus-two, minus-two}
use Rattle.net.specs.Scrambling.{PrefixBijection, RightInverse}
use Rattle.net.proofs.Scrambling.{lawful_scramblings, undone_scramblings}
use Rattle.flips.specs.Flips.{flipped, unflipped, NoneSet}
use Rattle.flips.specs.Scramble.{scramble_word, unscramble_word, mask}
use Rattle.flips.proofs.FlipBits.{flipped-lawful, flipped-undone, by_top_byte}
use Rattle.flips.proofs.None.{leaves, leaves_back}

module _ (flips : List ℕ) (s : ℕ) where
  pub scrambled-lawful : s < 2 ^ 32 → PrefixBijection 2 32 (scramble_word flips s)
  scrambled-lawful h =
      let L = lawful_scramblings one_lt_two 32 in
      L.composed (flipped flips) (λ w. plus 2 w s) (flipped-lawful flips) (L.shift s h)

  pub scrambled-undone : s < 2 ^ 32 → RightInverse 2 32 (scramble_word flips s) (unscramble_word flips s)
  scrambled-undone h =
      let U = undone_scramblings one_lt_two 32 in
      U.composed (flipped flips) (λ w. plus 2 w s) (unflipped flips) (λ w. minus 2 w s) (flipped-undone flips) (U.shift s h)

  pub masked : (w : ℕ) → w < 2 ^ 32 → scramble_word flips s w ≡ plus 2 w (mask flips s (w / 2 ^ 24))
  masked w h =
      let v : ℕ = w / 2 ^ 24 * 2 ^ 24 in
      ap (λ (x : ℕ). plus 2 x s) (by_top_byte flips w h) ∙ plus_assoc one_lt_two w (plus 2 (flipped flips v) v) s

  -- ---- as the code has them

  -- a word with its mask out of the table
  pub by_mask : (w : ℕ) → w < 2 ^ 32 → plus 2 w (get_or (map (mask flips s) (range 0 256)) (w / 2 ^ 24) 0) ≡ scramble_word flips s w
  by_mask w h =
      let l : w / 2 ^ 24 < 256 = omega arith in
      let z : 0 + w / 2 ^ 24 ≡ w / 2 ^ 24 = omega arith in
      ap (plus 2 w) (getD_each (mask flips s) 0 256 (w / 2 ^ 24) 0 l ∙ ap (mask flips s) z) ∙ sym (masked w h)

  pub by_mask-xor : (w : ℕ) → w < 2 ^ 32 → bit_xor w (get_or (map (mask flips s) (range 0 256)) (w / 2 ^ 24) 0) ≡ scramble_word flips s w
  by_mask-xor w h = sym (plus-two w (get_or (map (mask flips s) (range 0 256)) (w / 2 ^ 24) 0)) ∙ by_mask w h

  pub shifted-after : (w : ℕ) {x : ℕ} → x ≡ flipped flips w → bit_xor x s ≡ scramble_word flips s w
  shifted-after w {x} e = sym (plus-two x s) ∙ ap (λ (y : ℕ). plus 2 y s) e

  pub unshifted_before : (w : ℕ) {x : ℕ} → x ≡ unflipped flips (bit_xor w s) → x ≡ unscramble_word flips s w
  unshifted_before w e = e ∙ ap (unflipped flips) (sym (minus-two w s))

  -- without flips only the shift is left
  module _ (none : NoneSet flips) (w : ℕ) (h : w < 2 ^ 32) where
    pub shift-left : scramble_word flips s w ≡ plus 2 w s
    shift-left = ap (λ (x : ℕ). plus 2 x s) (leaves flips none w h)

    pub only-shifted : bit_xor w s ≡ scramble_word flips s w
    only-shifted = sym (shift-left ∙ plus-two w s)

    pub shift-left-back : minus 2 w s < 2 ^ 32 → unscramble_word flips s w ≡ minus 2 w s
    shift-left-back small = leaves_back flips none (minus 2 w s) small
