-- `others_outside`: the cells passed lie inside.
use Rattle.std.proofs.Common.{◌≡◌, drop}
use Rattle.stratify.specs.Overview.{some_outside}
use Rattle.stratify.proofs.overviews.Cells.others_outside.Given as goal

abbrev pub invariant-loop-i : goal.invariant-loop-i
invariant-loop-i l = let s = l.self.shape in
    some_outside s.m s.a (drop 1 l.self.columns.now) (drop 1 l.self.rows.now)
    ≡ some_outside s.m s.a (drop l.i l.self.columns.now) (drop l.i l.self.rows.now)
