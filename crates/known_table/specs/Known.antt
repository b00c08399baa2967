-- The known points of 01 that are marked (P): one table, and what an entry of it says of the definitions that the contracts cite.
use Rattle.std.specs.Prelude.{◌≡◌, List, [], ◌∷◌, ℕ, replicate}
use Rattle.std.specs.Float.{binary32}
use Rattle.std.specs.Float.Ieee.{to_bits}
use Rattle.ranges.specs.Each.{Each}
use Rattle.net.specs.Sequence.{point}
use Rattle.refusal.specs.Outcome.{accepted, not_net}
use Rattle.plan.specs.declared.pair.Plan.{Plan}
use Rattle.plan.specs.declared.points.Scramble.{Scramble}
use Rattle.plan.specs.Pair.{only_shift, sequence, standard_pair, largest_level}
use Rattle.stratify.specs.Answers.{check_outcome, query_outcome}
use Rattle.unit.specs.Word.{single}

pub data Known : Type 0 where
  -- the standard pair without shift: the point of index i
  point_at : (i x y : ℕ) → Known
  -- the standard pair with the first shift word s: the index of block k in column c and row r of the shape (m, a)
  index_in : (s m a c r k i : ℕ) → Known
  -- a pair of 64 equal words, checked to a level: 3 with the shape (m, a) and j
  refused_at : (word level m a j : ℕ) → Known
  -- the bits of the single of a word
  single_of : (word bits : ℕ) → Known

abbrev pub shift_by : ℕ → Scramble
shift_by s = only_shift (record { x = s; y = 0 })

-- what an entry says of a plan P; `KnownPoints` takes the standard pair
abbrev pub Holds : Plan → Known → Type 0
Holds P (point_at i x y) = point (sequence P (shift_by 0)) i ≡ (x, y)
Holds P (index_in s m a c r k i) = query_outcome P (shift_by s) largest_level m a k c r ≡ accepted i
Holds P (refused_at word level m a j) = check_outcome (replicate 64 word) level ≡ not_net m a j
Holds P (single_of word bits) = to_bits binary32 (single word) ≡ bits

abbrev pub table : List Known
table =
    point_at 0 0 0
    ∷ point_at 1 0x80000000 0x80000000
    ∷ point_at 2 0x40000000 0xC0000000
    ∷ point_at 3 0xC0000000 0x40000000
    ∷ point_at 5 0xA0000000 0x20000000
    ∷ index_in 0 2 1 1 0 0 3
    ∷ index_in 0 2 1 1 0 1 5
    ∷ index_in 0x80000000 2 1 1 0 0 0
    ∷ refused_at 0 1 1 0 1
    ∷ single_of 1 0x2F800000
    ∷ single_of 0xFFFFFFFF 0x3F7FFFFF
    ∷ []

-- every entry holds of the standard pair
abbrev pub KnownPoints : Type 0
KnownPoints = Each (Holds standard_pair) table
