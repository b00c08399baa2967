-- `find`: the index that an elimination gives is the only one; where the columns are dependent, the shape is no net.
use Rattle.std.specs.Prelude.{Ok, Err}
use mathlib.Core.Path.{◌≡◌, refl, sym, ap, ◌∙◌, subst}
use Prim.Native.Nat.{ℕ, ◌+◌, ◌*◌, ◌^◌, ◌<◌}
use native.Mathlib.Omega.{arith}
use borrow.Author.Rules.{rules}
use lib.Bits.{bit_xor}
use Rattle.ranges.specs.Unique.{Only}
use Rattle.digits.proofs.Two.{one_lt_two}
use Rattle.linear.proofs.Prime.{two}
use Rattle.net.specs.Sequence.{VisitIn}
use Rattle.net.specs.Shape.{Shape}
use Rattle.net.proofs.Interval.{block_lt}
use Rattle.net.proofs.Query.{locate-found, locate-bad_shape}
use Rattle.refusal.specs.Refusal.{of_result}
use Rattle.refusal.specs.declared.Refusal.TheVariants as variant
use Rattle.word.proofs.Joined.{joined-whole}
use Rattle.plan.specs.Pair.{generators, scrambling, sequence}
use Rattle.elimination.specs.Elimination.{ShapeColumns, EliminatesAny}
use Rattle.elimination.proofs.Shapes.{least-of_kernel, determinant-nonzero}
use Rattle.stratify.specs.Answers.{of_location}
use Rattle.stratify.proofs.Cell.{answer}
use Rattle.stratify.proofs.Mapped.{made_of}
use Rattle.stratify.proofs.queries.find.Goals as goal
use Rattle.stratify.proofs.queries.find.Goals.{After-shape_columns, After-join}

-- the shape and its columns
shape : (c : goal.After-shape_columns) → Shape (generators c.args.plan) c.args.shape.m c.args.shape.a
shape c = record { valid = c.requires.0; wide = c.args.shape.wide; fits = c.args.shape.fits }

columns : (c : goal.After-shape_columns) → ShapeColumns (generators c.args.plan) c.args.shape.m c.args.shape.a c.shape_columns.result
columns c = c.shape_columns.ensures.shape c.args.shape.wide c.args.shape.fits

pub returns-in_err-index : goal.returns-in_err-index
returns-in_err-index c =
    let a = c.args in
    let p = (goal.at.returns-in_err-index c).After-shape_columns in
    let why = c.in_err-index.field-0.0 in
    let back : c.from_residual.result ≡ Err why = search rules in
    let t = made_of c.eliminate.result c.map_err.result _ c.map_err.ensures.cases why c.in_err-index.was in
    let d = t.0 in
    let positive = d.positive in
    let is : why ≡ variant.NotNet a.shape.m a.shape.a d.kernel = search (rules, t) in
    ap (of_result (λ i. i)) (back ∙ ap (λ w. Err w) is)
    ∙ sym (ap (of_location a.shape.m a.shape.a)
    (locate-bad_shape (generators a.plan) (scrambling a.scramble) a.shape.m a.shape.a a.block a.column a.row (shape p) two d.kernel
    (least-of_kernel (shape p) (columns p) ((rw t.1 at c.eliminate.ensures).within a.shape.fits).kernel_is (omega arith))))

-- what the elimination gives
given : (c : goal.After-join) → let m = c.args.shape.m in
    EliminatesAny c.shape_columns.result m (bit_xor c.plain_number.result c.block_cell.result) 0 c.in_ok-index.index
given c =
    let is : c.eliminate.result ≡ Ok c.in_ok-index.index = search rules in
    rw is at c.eliminate.ensures

-- the index that comes back is the only one
only : (c : goal.After-join) → let a = c.args in
    Only (VisitIn (sequence a.plan a.scramble) a.shape.m a.shape.a a.block a.column a.row) (a.block * 2 ^ a.shape.m + c.in_ok-index.index)
only c =
    let a = c.args in
    let q = c.requires.2 in
    let p = (goal.at.returns c).After-shape_columns in
    answer (shape p) a.scramble c.requires.1 a.block a.column a.row q.column q.row (columns p) c.in_ok-index.index
    (rw (c.plain_number.ensures, c.block_cell.ensures) at ((given c).within q.size))

-- and it is a word
fits : (c : goal.After-join) → c.args.block * 2 ^ c.args.shape.m + c.in_ok-index.index < 2 ^ 32
fits c =
    let q = c.requires.2 in
    let below = (only c).holds.in_block.below in
    block_lt one_lt_two 32 c.args.shape.m c.args.block c.in_ok-index.index q.size q.block (omega arith)

pub returns : goal.returns
returns c =
    let a = c.args in
    let p = (goal.at.returns c).After-shape_columns in
    let odd = determinant-nonzero (shape p) (columns p) ((given c).within a.shape.fits).kernel_is refl in
    let Lies : ℕ → Type 0 = VisitIn (sequence a.plan a.scramble) a.shape.m a.shape.a a.block a.column a.row in
    sym (ap (of_location a.shape.m a.shape.a)
    (locate-found (generators a.plan) (scrambling a.scramble) a.shape.m a.shape.a a.block a.column a.row c.join.result odd
    (subst (Only Lies) (sym (joined-whole _ _ _ c.join.ensures (fits c))) (only c))))
