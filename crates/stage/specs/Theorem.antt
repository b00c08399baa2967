-- What users rely on: a position is rounded down to a whole number of µm, the reader's whole field lies in the region there, every place where it
-- does is the position of some point, and exactly which calls are refused under 10 and 16. A field of 0 or 1 gives 01's positions.
use Rattle.std.specs.Prelude.{◌≡◌, true, false, [], ◌⊎◌, ◌↔◌, ℕ, suc, ◌+◌, ◌-◌, ◌*◌, ◌/◌, ◌^◌, ◌≤◌, ◌<◌, ℤ, pos, ◌+ℤ◌, ◌≤ℤ◌, ◌<ℤ◌}
use Rattle.refusal.specs.Outcome.{accepted, refused}
use Rattle.stage.specs.declared.regions.Region.{Region}
use Rattle.stage.specs.declared.regions.Field.{Field}
use Rattle.stage.specs.declared.regions.Position.{Position}
use Rattle.stage.specs.Position.{offset}
use Rattle.stage.specs.Field.{field_extent}
use Rattle.stage.specs.Region.{within, position_in, position_outcome}
use Rattle.stage.specs.Base.{base_position_outcome}

-- edge ≤ z < edge + extent, over the integers
abbrev pub InExtent : (edge : ℤ) (extent : ℕ) (z : ℤ) → Type 0
InExtent edge extent z = (edge ≤ℤ z) × (z <ℤ (edge +ℤ pos extent))

-- a field of extent F whose corner is at z lies in the extent: edge ≤ z and z + F ≤ edge + extent
abbrev pub FieldInside : (edge : ℤ) (extent F : ℕ) (z : ℤ) → Type 0
FieldInside edge extent F z = (edge ≤ℤ z) × ((z +ℤ pos F) ≤ℤ (edge +ℤ pos extent))

-- the whole field lies in the region where its corner is at p
pub record FieldIn (f : Field) (r : Region) (p : Position) : Type 0 where
  pub across : FieldInside r.left r.width (field_extent f.width) p.x
  pub down : FieldInside r.top r.height (field_extent f.height) p.y

-- what holds of the position p of the point with coordinate words x and y: C-12's formula, edge + floor (word * (extent - F + 1) / 2 ^ 32); the
-- whole field lies in the region; and a field as large as the region lies on its edge
pub record PositionOf (f : Field) (r : Region) (x y : ℕ) (p : Position) : Type 0 where
  pub across : p.x ≡ (r.left +ℤ pos (x * (r.width - field_extent f.width + 1) / 2 ^ 32))
  pub down : p.y ≡ (r.top +ℤ pos (y * (r.height - field_extent f.height + 1) / 2 ^ 32))
  pub inside : FieldIn f r p
  pub left_edge : field_extent f.width ≡ r.width → p.x ≡ r.left
  pub top_edge : field_extent f.height ≡ r.height → p.y ≡ r.top

-- of a region within its limits every place where the whole field lies inside, i to the right of the left edge and j below the top edge, is the
-- position of some point
abbrev pub Reached : Type 0
Reached = (f : Field) (r : Region) (i j : ℕ) → within r ≡ true → i + field_extent f.width ≤ r.width → j + field_extent f.height ≤ r.height
    → (x : ℕ) × (y : ℕ) × (x < 2 ^ 32) × (y < 2 ^ 32)
    × (position_outcome f r x y ≡ accepted (record { x = r.left +ℤ pos i; y = r.top +ℤ pos j }))

pub record Theorems : Type 0 where
  -- the distance of a word from its edge is the largest whole number that is not above word * extent / 2 ^ 32
  pub floor : (extent word : ℕ) → (offset extent word * 2 ^ 32 ≤ word * extent) × (word * extent < suc (offset extent word) * 2 ^ 32)
  -- 01's formula stays in its region for every point of the unit square: left ≤ x < left + width and top ≤ y < top + height
  pub inside : (r : Region) (x y : ℕ) → within r ≡ true → x < 2 ^ 32 → y < 2 ^ 32
      → InExtent r.left r.width (position_in r x y).x × InExtent r.top r.height (position_in r x y).y
  -- every position that is given
  pub given : (f : Field) (r : Region) (x y : ℕ) (p : Position) → x < 2 ^ 32 → y < 2 ^ 32 → position_outcome f r x y ≡ accepted p
      → PositionOf f r x y p
  pub reached : Reached
  -- 10 exactly where the region is outside its limits
  pub ten : (f : Field) (r : Region) (x y : ℕ) → (position_outcome f r x y ≡ refused 10 []) ↔ (within r ≡ false)
  -- of a region within its limits, 16 exactly where the field is larger than the region on an axis
  pub sixteen : (f : Field) (r : Region) (x y : ℕ) → within r ≡ true
      → (position_outcome f r x y ≡ refused 16 []) ↔ ((r.width < field_extent f.width) ⊎ (r.height < field_extent f.height))
  -- a field of 0 or 1 on each axis gives what 01 gave
  pub base : (f : Field) (r : Region) (x y : ℕ) → f.width ≤ 1 → f.height ≤ 1 → position_outcome f r x y ≡ base_position_outcome r x y
