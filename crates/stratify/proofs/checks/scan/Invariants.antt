-- `scan`: no shape before (m, first) has an even determinant.
use Rattle.std.proofs.Common.{◌≤◌, ◌<◌}
use Rattle.net.specs.Check.{NoneBefore}
use Rattle.plan.specs.Pair.{generators}
use Rattle.stratify.proofs.checks.scan.Given as goal

abbrev pub invariant-loop-m : goal.invariant-loop-m
invariant-loop-m l = (0 < l.m) × (l.first ≤ l.m) × NoneBefore (generators l.plan) l.m l.first
