-- Regions of the stage: their limits, the reader's field in them, and the outcome of a position call.
use Rattle.std.specs.Prelude.{Bool, not, ◌&&◌, List, [], ◌∷◌, ℕ}
use Rattle.refusal.specs.Outcome.{Outcome, accepted, Test, first}
use Rattle.stage.specs.declared.regions.Region.{Region}
use Rattle.stage.specs.declared.regions.Field.{Field}
use Rattle.stage.specs.declared.regions.Position.{Position}
use Rattle.stage.specs.Position.{edge_within, extent_within, position}
use Rattle.stage.specs.Field.{fits_in, span}

-- both edges and both extents are within their limits
unfoldable pub within : Region → Bool
within r = edge_within r.left && edge_within r.top && extent_within r.width && extent_within r.height

-- the field is neither wider nor taller than the region
unfoldable pub takes : Field → Region → Bool
takes f r = fits_in r.width f.width && fits_in r.height f.height

-- refusal 10: an edge or an extent is outside its limits
abbrev pub outside : Region → Test
outside r = record { number = 10; holds = not (within r) }

-- refusal 16: the field is wider or taller than the region
abbrev pub too_large : Field → Region → Test
too_large f r = record { number = 16; holds = not (takes f r) }

-- the tests of a region and a field, in order
abbrev pub position_tests : Field → Region → List Test
position_tests f r = outside r ∷ too_large f r ∷ []

-- the region of the places that the corner of the field may take
unfoldable pub corners : Field → Region → Region
corners f r = record { left = r.left; top = r.top; width = span r.width f.width; height = span r.height f.height }

-- where the point with coordinate words x and y lies in a region: 01's formula, left + floor (x * width / 2 ^ 32), and likewise down
abbrev pub position_in : Region → ℕ → ℕ → Position
position_in r x y = record { x = position r.left r.width x; y = position r.top r.height y }

-- and what asking for it comes to: a region outside its limits is refused
abbrev pub corner_outcome : Region → ℕ → ℕ → Outcome Position
corner_outcome r x y = first (outside r ∷ []) (accepted (position_in r x y))

-- the position of the point, for a reader's field: the corner of the field, so that it lies among the places that the corner may take. A region
-- outside its limits and then a field that is too large are refused.
abbrev pub position_outcome : Field → Region → ℕ → ℕ → Outcome Position
position_outcome f r x y = first (position_tests f r) (accepted (position_in (corners f r) x y))
