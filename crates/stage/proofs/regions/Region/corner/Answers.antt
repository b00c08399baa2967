-- `Region::corner`: a region that passes the test meets what `axis::position` requires on both axes.
use mathlib.Core.Path.{sym, ◌∙◌}
use borrow.Author.Rules.{rules}
use Rattle.stage.proofs.Limits.{Within, within_has, edge_read}
use Rattle.stage.proofs.regions.Region.corner.Goals as goal
use Rattle.stage.proofs.regions.Region.corner.Goals.{Else-not-within}

-- the region is within its limits
limits : (c : goal.Else-not-within) → Within c.args.self
limits c = within_has _ (sym c.within.ensures ∙ c.if-not-within.false)

pub position-requires : goal.position-requires
position-requires c =
    let w = limits (goal.at.position-requires c).Else-not-within in
    record { edge_value = edge_read c.args.self.left (search rules) w.left; extent_le_largest_extent = w.width }

pub position-requires-2 : goal.position-requires-2
position-requires-2 c =
    let w = limits (goal.at.position-requires-2 c).Else-not-within in
    record { edge_value = edge_read c.args.self.top (search rules) w.top; extent_le_largest_extent = w.height }
