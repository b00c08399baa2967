-- The position of a point in a region and for a reader's field that C gives by their numbers.
use Rattle.std.specs.Prelude.{ℕ, ℤ}
use Rattle.refusal.specs.Outcome.{Outcome}
use Rattle.stage.specs.declared.regions.Position.{Position}
use Rattle.stage.specs.Region.{position_outcome}

-- the position, or refusal 10 or 16, in the region of these edges and extents, for the field of this width and height
abbrev pub region_position_outcome : (left top : ℤ) (width height wide high x y : ℕ) → Outcome Position
region_position_outcome left top width height wide high x y =
    position_outcome (record { width = wide; height = high }) (record { left = left; top = top; width = width; height = height }) x y
