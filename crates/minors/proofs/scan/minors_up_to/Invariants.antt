-- `minors_up_to`: after each turn one more row is reduced.
use Rattle.minors.proofs.Scanned.{Going}
use Rattle.minors.proofs.scan.minors_up_to.Given as goal

abbrev pub invariant-loop-m : goal.invariant-loop-m
invariant-loop-m l = Going l.initial.reduced l.a l.reduced l.m
