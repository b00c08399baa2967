-- The visits of a range of indexes and of a block, as lists.
use Rattle.std.specs.Prelude.{List, map, ℕ, ◌*◌, ◌^◌}
use Rattle.ranges.specs.Range.{range}
use Rattle.ranges.specs.Count.{count}
use Rattle.net.specs.Sequence.{Sequence, inside}

-- a visit (01's word): an index with its point
pub record Visit : Type 0 where
  pub index : ℕ
  pub x : ℕ
  pub y : ℕ

abbrev pub visit : Sequence → ℕ → Visit
visit S i = record { index = i; x = S.x i; y = S.y i }

-- the visits of n indexes from s on, and those of block k of size m in rising order (01: a run)
abbrev pub visits : Sequence → ℕ → ℕ → List Visit
visits S s n = map (visit S) (range s n)

abbrev pub run : Sequence → ℕ → ℕ → List Visit
run S m k = visits S (k * S.b ^ m) (S.b ^ m)

-- how many of the visits lie in column c and row r of the shape (m, a)
abbrev pub hits : Sequence → ℕ → ℕ → ℕ → ℕ → List Visit → ℕ
hits S m a c r = count (λ v. inside S m a c r v.x v.y)
