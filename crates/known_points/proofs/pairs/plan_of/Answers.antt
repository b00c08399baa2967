-- `plan_of`: the words of a pair are never refused.
use Rattle.known_points.proofs.Loads.{pair_loads}
use Rattle.known_points.proofs.pairs.plan_of.Goals as goal

pub unwrap-requires : goal.unwrap-requires
unwrap-requires c = pair_loads _ c.told-words _ c.load.ensures
