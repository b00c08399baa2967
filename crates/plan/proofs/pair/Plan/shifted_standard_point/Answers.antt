-- `Plan::shifted_standard_point`: the products, and the shift.
use mathlib.Core.Path.{ap, ◌∙◌}
use Rattle.net.specs.Scrambling.{scrambled_point}
use Rattle.plan.specs.Pair.{scrambling, only_shift}
use Rattle.plan.proofs.pair.Plan.shifted_standard_point.Goals as goal

pub returns : goal.returns
returns c =
    let s = only_shift c.args.shift in
    c.add.ensures ∙ ap (scrambled_point (scrambling s)) c.standard_products.ensures
