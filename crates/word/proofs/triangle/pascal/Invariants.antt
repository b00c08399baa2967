-- `pascal`: the steps to come, done to the present word, give the product.
-- That the five steps send each column of the identity to that of Pascal's triangle is one computed test, where the loop begins.
use Rattle.std.proofs.Common.{◌≡◌, drop}
use Rattle.word.proofs.Steps.{steps, PascalSteps}
use Rattle.word.proofs.triangle.pascal.Given as goal

abbrev pub invariant-loop-width : goal.invariant-loop-width
invariant-loop-width l = record {
  test : PascalSteps l.width-items;
  to_come : steps (drop l.width-index l.width-items) l.sum ≡ steps l.width-items l.word;
}
