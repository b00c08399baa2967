-- `Region::position`: a region that passes both tests has places for the corner, and these are a region within the limits.
use mathlib.Core.Path.{ap, ◌∙◌}
use Rattle.stage.specs.declared.regions.Region.{Region}
use Rattle.stage.specs.Region.{corner_outcome}
use Rattle.stage.proofs.Fit.{placed}
use Rattle.stage.proofs.regions.Region.position.Goals as goal

pub returns : goal.returns
returns c =
    let a = c.args in
    c.corner.ensures ∙ ap (λ (r : Region). corner_outcome r a.x a.y) c.corners.ensures
    ∙ placed a.field a.self a.x a.y c.judge.result c.judge.ensures _ c.in_ok-judge.was
