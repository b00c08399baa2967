-- `scan_size`: no shape before (m, a) has an even determinant.
use Rattle.std.specs.Prelude.{Ok, Err}
use Rattle.std.proofs.Common.{◌≡◌, refl, sym, ap, ◌∙◌, ℕ, ◌+◌, ◌≤◌, ◌<◌, ◌≢◌, ◌⊎◌, inl, inr, arith, rules}
use Rattle.ranges.proofs.Order.{lt_or_ge}
use Rattle.linear.proofs.Prime.{two}
use Rattle.net.specs.Generators.{Generators}
use Rattle.net.specs.Shape.{Shape, determinant}
use Rattle.net.specs.Check.{NoneBefore}
use Rattle.net.proofs.Scan.{scan_next, scan_stops}
use Rattle.refusal.specs.declared.Refusal.TheVariants as variant
use Rattle.plan.specs.Pair.{generators}
use Rattle.elimination.specs.Elimination.{ShapeColumns}
use Rattle.elimination.proofs.Shapes.{least-of_kernel, determinant-nonzero}
use Rattle.stratify.specs.Answers.{of_verdict}
use Rattle.stratify.proofs.Mapped.{made_of}
use Rattle.stratify.proofs.checks.scan_size.Goals as goal
use Rattle.stratify.proofs.checks.scan_size.Goals.{After-shape_columns}

-- the shape at hand and its columns
shape : (c : goal.After-shape_columns) → Shape (generators c.args.plan) c.args.m c.loop-a.a-counter
shape c = record { valid = c.requires.0; wide = omega arith; fits = omega (arith, c.requires.2) }

columns : (c : goal.After-shape_columns) → ShapeColumns (generators c.args.plan) c.args.m c.loop-a.a-counter c.shape_columns.result
columns c = let s = shape c in c.shape_columns.ensures.shape s.wide s.fits

pub returns-in_err-map_err : goal.returns-in_err-map_err
returns-in_err-map_err c =
    let a = c.args in
    let p = (goal.at.returns-in_err-map_err c).After-shape_columns in
    let s = shape p in
    let why = c.in_err-map_err.field-0.0 in
    let back : c.from_residual.result ≡ Err why = search rules in
    let t = made_of c.eliminate.result c.map_err.result _ c.map_err.ensures.cases why c.in_err-map_err.was in
    let d = t.0 in
    let positive = d.positive in
    let is : why ≡ variant.NotNet a.m c.loop-a.a-counter d.kernel = search (rules, t) in
    rw (back ∙ ap (λ w. Err w) is) (λ level within known.
    sym (ap of_verdict
    (scan_stops c.requires.0 two level known a.m c.loop-a.a-counter d.kernel c.requires.1 within s.wide c.loop-a.invariant
    (least-of_kernel s (columns p) ((rw t.1 at c.eliminate.ensures).within s.fits).kernel_is (omega arith)))))

pub loop-a-preserved : goal.loop-a-preserved
loop-a-preserved c =
    let p = (goal.at.loop-a-preserved c).After-shape_columns in
    let s = shape p in
    let is : c.eliminate.result ≡ Ok c.in_ok-map_err.field-0 = search rules in
    scan_next _ c.args.m c.loop-a.a-counter c.loop-a.invariant
    (determinant-nonzero s (columns p) ((rw is at c.eliminate.ensures).within s.fits).kernel_is refl)

-- past the last shape of its size
row : (G : Generators) (m a : ℕ) → m + 1 ≤ a → NoneBefore G m a → NoneBefore G (m + 1) 0
row G m a last old n d p l (inr (e, h)) = absurd (omega arith)
row G m a last old n d p l (inl h) = go (lt_or_ge n m)
  where
    go : (n < m) ⊎ (m ≤ n) → determinant G n d ≢ 0
    go (inl s) = old n d p l (inl s)
    go (inr s) = old n d p l (inr (omega arith, omega arith))

pub returns : goal.returns
returns c = row (generators c.args.plan) c.args.m c.loop-a.a-counter c.loop-a-test.false c.loop-a.invariant
