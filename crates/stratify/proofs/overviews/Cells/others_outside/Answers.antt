-- `others_outside`: the cell at hand decides, or those after it do.
use mathlib.Core.Path.{◌≡◌, sym, ap, ◌∙◌}
use mathlib.Core.Bool.{Bool, true, false, ◌||◌}
use Prim.Native.Nat.{suc}
use native.Mathlib.Numerals.{add-one}
use native.Mathlib.Omega.{arith}
use lib.ListN.{drop}
use Rattle.stratify.specs.Overview.{some_outside}
use Rattle.stratify.proofs.Answered.{outside-more, outside_past}
use Rattle.stratify.proofs.overviews.Cells.others_outside.Goals as goal
use Rattle.stratify.proofs.overviews.Cells.others_outside.Goals.{After-outside}

decided : (c : goal.After-outside) (b : Bool) → c.outside.result ≡ b
    → let s = c.args.self.shape in
    let l = c.loop-i in
    some_outside s.m s.a (drop 1 c.args.self.columns.now) (drop 1 c.args.self.rows.now)
    ≡ (b || some_outside s.m s.a (drop (suc l.i) c.args.self.columns.now) (drop (suc l.i) c.args.self.rows.now))
decided c b e =
    let a = c.args.self in
    let l = c.loop-i in
    l.invariant ∙ outside-more a.shape.m a.shape.a a.columns.now a.rows.now l.i (omega arith) a.even
    ∙ ap (λ (d : Bool). d || some_outside a.shape.m a.shape.a (drop (suc l.i) a.columns.now) (drop (suc l.i) a.rows.now))
    (sym c.outside.ensures ∙ e)

pub returns-then-outside : goal.returns-then-outside
returns-then-outside c = sym (decided (goal.at.returns-then-outside c).After-outside true c.if-outside.true)

pub loop-i-preserved : goal.loop-i-preserved
loop-i-preserved c = rw (add-one c.loop-i.i) (decided (goal.at.loop-i-preserved c).After-outside false c.if-outside.false)

pub returns : goal.returns
returns c =
    let a = c.args.self in
    let l = c.loop-i in
    sym (l.invariant ∙ outside_past a.shape.m a.shape.a a.columns.now a.rows.now l.i (omega arith))
