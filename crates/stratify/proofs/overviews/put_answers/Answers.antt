-- `put_answers`: of each cell the number, and of each number the index.
use mathlib.Core.Path.{◌≡◌, sym, ap, ◌∙◌}
use Prim.Native.Nat.{ℕ, ◌+◌, ◌*◌, ◌%◌, ◌^◌}
use lib.Bits.{bit_xor}
use Rattle.net.specs.Generators.{product}
use Rattle.net.specs.Scrambling.{plain}
use Rattle.net.specs.Shape.{Shape}
use Rattle.net.specs.Elimination.{interval}
use Rattle.word.proofs.Joined.{joined-whole}
use Rattle.plan.specs.Pair.{generators, sequence}
use Rattle.stratify.proofs.Answered.{base_lt, answered, mapped_are}
use Rattle.stratify.proofs.overviews.put_answers.Goals as goal
use Rattle.stratify.proofs.overviews.put_answers.Goals.{After-join-base}

shape : (c : goal.After-join-base) → Shape (generators c.args.plan) c.args.cells.shape.m c.args.cells.shape.a
shape c = record { valid = c.requires.valid.0; wide = c.args.cells.shape.wide; fits = c.args.cells.shape.fits }

-- what the block adds for all cells
base_is : (c : goal.After-join-base) → let a = c.args in
    let m = a.cells.shape.m in
    c.join-base.result ≡ a.block * 2 ^ m + product 2 a.inverse (interval (plain (generators a.plan)) m a.cells.shape.a (a.block * 2 ^ m))
base_is c =
    let a = c.args in
    let p = c.requires.valid in
    let product_is = c.product.ensures ∙ ap (product 2 a.inverse) c.block_cell-first.ensures in
    joined-whole _ _ _ (c.join-base.ensures ∙ ap (λ (v : ℕ). (a.block * 2 ^ a.cells.shape.m + v) % 2 ^ 32) product_is)
    (base_lt (shape c) a.scramble p.1 a.block a.inverse p.3 p.2.block)

-- the numbers are what `put_numbers` leaves in the last of its arguments
pub returns : goal.returns
returns c =
    let a = c.args in
    let p = c.requires.valid in
    let (inside, room) = c.requires.all_inside in
    let numbers = c.put_numbers.new.answers in
    c.put_indexes.ensures
    ∙ mapped_are (sequence a.plan a.scramble) a.cells.shape.m a.cells.shape.a a.block a.cells.columns.now a.cells.rows.now numbers
    (λ v. bit_xor c.join-base.result (product 2 a.inverse v)) a.cells.even (c.put_numbers.auto.answers ∙ sym room)
    (λ i h.
    let (hc, hr) = inside i h in
    ap (λ (v : ℕ). bit_xor c.join-base.result (product 2 a.inverse v)) (c.put_numbers.ensures i h)
    ∙ answered (shape (goal.at.returns c).After-join-base) a.scramble p.1 a.block a.inverse p.3 _ _ _ hc hr
    (base_is (goal.at.returns c).After-join-base))
