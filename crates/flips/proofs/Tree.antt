-- The tree of flip bits: its root, and the two ways on from a node. Assumes nothing.
use mathlib.Core.Path.{◌≡◌, refl, sym, ap, ◌∙◌}
use mathlib.Core.List.{List}
use Prim.Native.Nat.{ℕ, zero, suc, ◌+◌, ◌-◌, ◌*◌, ◌^◌, ◌≤◌, ◌<◌}
use native.Mathlib.Nat.{pow-suc}
use native.Mathlib.Numerals.{add-one}
use native.Mathlib.Omega.{arith}
use lib.Bits.{bit_xor}
use lib.ListN.{get_or}
use Rattle.digits.specs.Digits.{plus}
use Rattle.digits.proofs.Digit.{digit_lt, pow_pos}
use Rattle.digits.proofs.Arithmetic.{plus_comm, plus-minus}
use Rattle.digits.proofs.Two.{one_lt_two, plus-two, minus-two}
use Rattle.net.specs.Sequence.{top}
use Rattle.net.proofs.Scrambling.{top-none, top-suc}
use Rattle.flips.specs.Flips.{flip_bit, flipped}
use Rattle.flips.specs.Scramble.{mask}
use Rattle.flips.specs.Tree.{OnTheWay}
use Rattle.flips.proofs.FlipBits.{flip_bit_lt}
use Rattle.flips.proofs.Turn.{high, mask_starts, mask_turn, mask-ends}

-- m is what is added to the bits that lead to node k
abbrev pub AddedAt : List ℕ → (k m : ℕ) → Type 0
AddedAt flips k m =
    (m ≤ k) × ((t w : ℕ) → t ≤ 8 → w < 2 ^ 32 → k + 1 ≡ 2 ^ t + top 2 32 t w
    → (m < 2 ^ t) × (high flips t w ≡ plus 2 (top 2 32 t w) m))

module _ (flips : List ℕ) where
  pub root : AddedAt flips 0 0
  root = (omega arith, at)
    where
      at : (t w : ℕ) → t ≤ 8 → w < 2 ^ 32 → 0 + 1 ≡ 2 ^ t + top 2 32 t w → (0 < 2 ^ t) × (high flips t w ≡ plus 2 (top 2 32 t w) 0)
      at zero w l h e = (omega arith, mask_starts flips w h)
      at (suc t) w l h e = absurd (omega (arith, e, pow-suc 2 t, pow_pos one_lt_two t))

  pub onwards : (node m d : ℕ) → d ≤ 1 → AddedAt flips node m → AddedAt flips (node * 2 + 1 + d) (m * 2 + flip_bit flips node)
  onwards node m d small here = (omega (arith, here.0, flip_bit_lt flips node), at)
    where
      at : (t w : ℕ) → t ≤ 8 → w < 2 ^ 32 → node * 2 + 1 + d + 1 ≡ 2 ^ t + top 2 32 t w
          → (m * 2 + flip_bit flips node < 2 ^ t) × (high flips t w ≡ plus 2 (top 2 32 t w) (m * 2 + flip_bit flips node))
      at zero w l h e = absurd (omega (arith, e, top-none one_lt_two 32 w h))
      at (suc t) w l h e =
          let p = top 2 32 t w in
          let more = top-suc one_lt_two 32 t w (omega arith) in
          let up : node + 1 ≡ 2 ^ t + p = omega (arith, e, more, pow-suc 2 t, digit_lt one_lt_two (32 - suc t) w) in
          let first : 2 ^ t - 1 + 1 ≡ 2 ^ t = omega (arith, pow_pos one_lt_two t) in
          let is : 2 ^ t - 1 + p ≡ node = omega (arith, up, pow_pos one_lt_two t) in
          let before = here.1 t w (omega arith) h up in (
            omega (arith, before.0, pow-suc 2 t, flip_bit_lt flips node),
            rw (sym (add-one t)) (mask_turn flips w t (2 ^ t - 1) m (omega arith) first before.1)
                ∙ ap (λ (n : ℕ). plus 2 (top 2 32 (suc t) w) (m * 2 + flip_bit flips n)) is,
          )

  -- after eight bits it is the mask of the top byte
  pub leaf : (tree : List ℕ) → OnTheWay flips 511 tree → (v s : ℕ) → v < 256
      → (get_or tree (255 + v) 0 < 256) × (bit_xor (get_or tree (255 + v) 0 * 2 ^ 24) s ≡ mask flips s v)
  leaf tree on v s h =
      let m = get_or tree (255 + v) 0 in
      let here = on (255 + v) (omega arith) in
      let w : ℕ = v * 2 ^ 24 in
      let M : ℕ = m * 2 ^ 24 in
      let byte : top 2 32 8 w ≡ v = omega arith in
      let at = here.1 8 w (omega arith) (omega arith) (omega (arith, byte)) in
      let ends = mask-ends flips w 8 m refl at.1 in
      let alone : plus 2 (flipped flips w) w ≡ M = ap (λ (x : ℕ). plus 2 x w) (sym ends ∙ sym (plus-two w M) ∙ plus_comm one_lt_two w M)
      ∙ plus-two (plus 2 M w) w ∙ sym (minus-two (plus 2 M w) w) ∙ plus-minus one_lt_two M w in
      (at.0, sym (plus-two M s) ∙ ap (λ (x : ℕ). plus 2 x s) (sym alone))
