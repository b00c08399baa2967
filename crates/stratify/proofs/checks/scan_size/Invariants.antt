-- `scan_size`: no shape before (m, a) has an even determinant.
use Rattle.net.specs.Check.{NoneBefore}
use Rattle.plan.specs.Pair.{generators}
use Rattle.stratify.proofs.checks.scan_size.Given as goal

abbrev pub invariant-loop-a : goal.invariant-loop-a
invariant-loop-a l = NoneBefore (generators l.plan) l.m l.a-counter
