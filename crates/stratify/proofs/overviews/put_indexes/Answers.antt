-- `put_indexes`: the front of the list is made of products.
use mathlib.Core.Path.{◌≡◌, sym, ap, ◌∙◌}
use mathlib.Core.List.{List, ◌++◌, map}
use Prim.Native.Nat.{ℕ, ◌<◌}
use native.Mathlib.Numerals.{add-one}
use native.Mathlib.Omega.{arith}
use lib.Bits.{bit_xor}
use lib.ListN.{length, get_or, set, take, drop}
use Rattle.ranges.proofs.Mapped.{map-step, map_next}
use Rattle.net.specs.Generators.{product}
use Rattle.stratify.proofs.overviews.put_indexes.Goals as goal

pub loop-answer-preserved : goal.loop-answer-preserved
loop-answer-preserved c =
    let l = c.loop-answer in
    let a = c.args in
    let old = a.answers.now in
    let i = l.answer-index in
    let g : ℕ → ℕ = λ n. bit_xor a.base (product 2 a.inverse n) in
    let h : i < length old = omega arith in
    let is : get_or l.answers i 0 ≡ get_or old i 0 = ap (λ (m : List ℕ). get_or m i 0) (sym l.invariant) ∙ map_next 0 g old i h in
    ap (λ (n : ℕ). map g (take n old) ++ drop n old) (add-one i)
    ∙ sym (map-step 0 g old i _ h (ap (bit_xor a.base) c.product.ensures ∙ ap g is))
    ∙ ap (λ (m : List ℕ). set m i (bit_xor a.base c.product.result)) l.invariant
