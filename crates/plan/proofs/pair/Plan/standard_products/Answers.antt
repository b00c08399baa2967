-- `Plan::standard_products`: each by its own fast way.
use Rattle.plan.proofs.Laws.{both}
use Rattle.plan.proofs.pair.Plan.standard_products.Goals as goal

pub returns : goal.returns
returns c = both c.standard_x.ensures c.standard_y.ensures
