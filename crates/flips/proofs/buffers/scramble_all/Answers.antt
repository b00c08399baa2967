-- `scramble_all`: the word at the index is scrambled by its mask.
use mathlib.Core.Path.{◌≡◌, sym, ap, ◌∙◌}
use mathlib.Core.List.{List, ◌++◌, map}
use Prim.Native.Nat.{ℕ, ◌/◌, ◌^◌, ◌<◌}
use native.Mathlib.Numerals.{add-one}
use native.Mathlib.Omega.{arith}
use borrow.Author.Rules.{rules}
use lib.Bits.{bit_xor}
use lib.ListN.{length, get_or, set, take, drop}
use mir.Syntax.{w32}
use mir.Val.{Fits}
use Rattle.ranges.proofs.Mapped.{map-step, map_next}
use Rattle.flips.specs.Scramble.{scramble_word}
use Rattle.flips.proofs.Scrambled.{by_mask-xor}
use Rattle.flips.proofs.buffers.scramble_all.Goals as goal

pub loop-word-preserved : goal.loop-word-preserved
loop-word-preserved c =
    let l = c.loop-word in
    let k = l.word-index in
    let a = c.args in
    let old = a.words.now in
    let g = scramble_word a.flips a.shift in
    let w = get_or l.words k 0 in
    let small : Fits w32 w = search rules in
    let x = bit_xor w (get_or c.masks-masks.result (w / 2 ^ 24) 0) in
    let h : k < length old = omega arith in
    let is : w ≡ get_or old k 0 = ap (λ (m : List ℕ). get_or m k 0) (sym l.invariant) ∙ map_next 0 g old k h in
    let made : x ≡ g w = ap (λ (m : List ℕ). bit_xor w (get_or m (w / 2 ^ 24) 0)) c.masks-masks.ensures
    ∙ by_mask-xor a.flips a.shift w small.fits in
    ap (λ (n : ℕ). map g (take n old) ++ drop n old) (add-one k)
    ∙ sym (map-step 0 g old k x h (made ∙ ap g is)) ∙ ap (λ (m : List ℕ). set m k x) l.invariant
