-- 01's position call, from before there was a reader's field (C-12). `Theorem` says for which fields it is still answered so.
use Rattle.std.specs.Prelude.{[], ◌∷◌, ℕ, ◌*◌, ◌/◌, ◌^◌, pos, ◌+ℤ◌}
use Rattle.refusal.specs.Outcome.{Outcome, accepted, first}
use Rattle.stage.specs.declared.regions.Region.{Region}
use Rattle.stage.specs.declared.regions.Position.{Position}
use Rattle.stage.specs.Region.{outside}

-- left + floor (x * width / 2 ^ 32), and likewise down
abbrev pub base_position : Region → ℕ → ℕ → Position
base_position r x y = record { x = r.left +ℤ pos (x * r.width / 2 ^ 32); y = r.top +ℤ pos (y * r.height / 2 ^ 32) }

-- or 10
abbrev pub base_position_outcome : Region → ℕ → ℕ → Outcome Position
base_position_outcome r x y = first (outside r ∷ []) (accepted (base_position r x y))
