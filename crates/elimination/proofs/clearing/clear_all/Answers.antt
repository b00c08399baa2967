-- `clear_all`: part by part, which keeps within half of the search's limits.
use Rattle.std.proofs.Common.{arith}
use Rattle.std.proofs.lemmas.Grind.{common_steps}
use Rattle.elimination.proofs.clearing.clear_all.Goals as goal

pub loop-t-preserved : goal.loop-t-preserved
loop-t-preserved c = record {
  long = grind (arith, common_steps);
  clears = record { word = grind (arith, common_steps); index = grind (arith, common_steps) };
  words_stay = grind (arith, common_steps);
  indexes_stay = grind (arith, common_steps);
}
