-- `Plan::loaded`: each half has as many words as a matrix has columns.
use mathlib.Core.Path.{◌≡◌, sym, ap, ◌∙◌}
use Prim.Native.Nat.{ℕ, ◌-◌}
use native.Mathlib.Nat.{le_of_eq}
use native.Mathlib.Omega.{arith}
use lib.ListN.{length, take, drop, length-drop}
use lib.Seq.{length-take-le, take_all}
use Rattle.word.specs.Matrices.{columns_held}
use Rattle.word.proofs.Copied.{columns-whole}
use Rattle.plan.specs.declared.pair.Plan.{Plan}
use Rattle.plan.proofs.Loading.{loaded-refused, loaded-accepted}
use Rattle.plan.proofs.pair.Plan.loaded.Goals as goal

pub slice_bounds-columns-end : goal.slice_bounds-columns-end
slice_bounds-columns-end c = sym (length-take-le 32 c.args.words.now (omega arith))

pub returns-then-words-eq-PAIR_WORDS : goal.returns-then-words-eq-PAIR_WORDS
returns-then-words-eq-PAIR_WORDS c =
    let w = c.args.words.now in
    let e = c.if-words-eq-PAIR_WORDS.true in
    let all = take_all (length w - 32) (drop 32 w) (le_of_eq (length-drop 32 w)) in
    let rest : length (drop 32 w) ≡ 32 = length-drop 32 w ∙ ap (λ (n : ℕ). n - 32) e in
    let y-columns = c.columns-then-words-eq-PAIR_WORDS in
    let x = c.columns.ensures ∙ columns-whole (take 32 w) (length-take-le 32 w (omega arith)) in
    let y = y-columns.ensures ∙ ap columns_held all ∙ columns-whole (drop 32 w) rest in
    let made : ◌≡◌ {A = Plan} (record { x = c.columns.result; y = y-columns.result }) (record { x = take 32 w; y = drop 32 w }) =
    λ i. record { x = x i; y = y i } in
    made ∙ sym (loaded-accepted w e)

pub returns : goal.returns
returns c = sym (loaded-refused c.args.words.now c.if-words-eq-PAIR_WORDS.false)
