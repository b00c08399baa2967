-- C-12's example, computed from the definitions: no reader must rely on it.
-- Assumes nothing.
use mathlib.Core.Path.{◌≡◌, refl}
use Rattle.stage.specs.Position.{offset}
use Rattle.stage.specs.Field.{field_extent, span}

-- width 1000, F 200: the word 0xC0000000 lies 600 right of the edge
example : offset (span 1000 200) 0xC0000000 ≡ 600
unfolding field_extent
example = refl
