-- `Region::within`: where a test fails before the last, by which of them it was.
use Rattle.std.proofs.lemmas.Grind.{common_steps}
use native.Mathlib.Omega.{arith}
use Rattle.stage.specs.Region.{within}
use Rattle.stage.proofs.regions.Region.within.Goals as goal
use Rattle.stage.proofs.regions.Region.within.Goals.{then-edge_within-2, else-edge_within-2}

pub returns-else-extent_within : goal.returns-else-extent_within
unfolding within
returns-else-extent_within c =
    elim c.if-edge_within-2.branch [ then-edge_within-2 w ↦ grind (arith, common_steps) | else-edge_within-2 w ↦ grind (arith, common_steps) ]
