-- The query: the index of a block that visits an interval, unless the shape is bad (01's word: its determinant is 0).
use Rattle.std.specs.Prelude.{ℕ, zero, suc, ◌+◌, ◌*◌, ◌^◌}
use Rattle.ranges.specs.Search.{search}
use Rattle.net.specs.Generators.{Generators}
use Rattle.net.specs.Sequence.{Sequence, lies}
use Rattle.net.specs.Scrambling.{Scrambling, plain, digital}
use Rattle.net.specs.Shape.{determinant}
use Rattle.net.specs.Check.{least_index}

-- the first index of block k in column c and row r; where there is none, the first of the next block
unfoldable pub visit_index : Sequence → ℕ → ℕ → ℕ → ℕ → ℕ → ℕ
visit_index S m a k c r = k * S.b ^ m + search (S.b ^ m) (λ p. lies S m a c r (k * S.b ^ m + p))

-- an index, or the j of a bad shape
pub data Location : Type 0 where
  found : (i : ℕ) → Location
  bad_shape : (j : ℕ) → Location

unfoldable pub locate : Generators → Scrambling → ℕ → ℕ → ℕ → ℕ → ℕ → Location
locate G F m a k c r =
    elim (determinant G m a) [ zero ↦ bad_shape (least_index (plain G) m a) | suc d ↦ found (visit_index (digital G F) m a k c r) ]
