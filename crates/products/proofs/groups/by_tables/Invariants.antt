-- `by_tables`: each group that is written leads to the next.
use Rattle.std.proofs.Common.{◌*◌, ◌^◌, ◌<◌}
use Rattle.products.proofs.Consecutive.{Along}
use Rattle.products.proofs.groups.by_tables.Given as goal

abbrev pub invariant-loop-g : goal.invariant-loop-g
invariant-loop-g g l = record {
  fits : l.word < 2 ^ 32;
  along : Along l.axis.columns l.masking.bits l.masking.masks.now l.start (l.g * 64) l.initial.out l.out l.word;
}
