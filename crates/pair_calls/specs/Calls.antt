-- What each call with a pair comes to, by the definitions of the crates below. Words that are no pair are refused before all else.
use Rattle.std.specs.Prelude.{List, ◌++◌, ℕ, Float}
use Rattle.ranges.specs.Walk.{Stepped}
use Rattle.net.specs.Run.{Visit}
use Rattle.refusal.specs.Outcome.{Outcome, then, granted}
use Rattle.word.specs.Index.{index_count}
use Rattle.plan.specs.declared.points.Scramble.{Scramble}
use Rattle.plan.specs.declared.walks.Visit.{Visit as VisitCode}
use Rattle.plan.specs.Pair.{sequence, scramble_of, standard_pair, load_outcome, loaded}
use Rattle.plan.specs.Calls.{point_outcome}
use Rattle.plan.specs.Fill.{fill_outcome, filled, Buffers}
use Rattle.plan.specs.Walk.{step_outcome}
use Rattle.stratify.specs.Answers.{query_outcome}
use Rattle.stratify.specs.Overview.{overview_outcome}
use Rattle.unit.specs.declared.pairs.Singles.{Singles}
use Rattle.unit.specs.Singles.{singles_outcome, singles_step_outcome}

-- what two shift words and the bytes of flips make
abbrev pub scramble_words : (shift-x shift-y : ℕ) → (flips-x flips-y : List ℕ) → Scramble
scramble_words shift-x shift-y flips-x flips-y = scramble_of (record { x = shift-x; y = shift-y }) flips-x flips-y

-- the point of an index
abbrev pub pair_point_outcome : List ℕ → Scramble → (index : ℕ) → Outcome (ℕ × ℕ)
pair_point_outcome words s index = then (load_outcome words) (point_outcome (loaded words) s index)

-- the point of an index as two singles
abbrev pub pair_singles_outcome : List ℕ → Scramble → (index : ℕ) → Outcome Singles
pair_singles_outcome words s index = then (load_outcome words) (singles_outcome (loaded words) s index)

-- whether a fill of buffers that hold xs and ys is refused
abbrev pub pair_fill_outcome : List ℕ → Scramble → ℕ → List ℕ → List ℕ → Outcome Unit
pair_fill_outcome words s start xs ys = then (load_outcome words) (fill_outcome index_count s.flips start xs ys)

-- what the fill leaves in them
abbrev pub pair_filled : List ℕ → Scramble → (start : ℕ) → List ℕ → List ℕ → Buffers
pair_filled words s start xs ys =
    granted (load_outcome words) (filled index_count s.flips (sequence (loaded words) s) start xs ys) (record { x = xs; y = ys })

-- a step of the walk with this next index and so many visits left
abbrev pub pair_step_outcome : List ℕ → Scramble → (next left : ℕ) → Outcome (Stepped Visit)
pair_step_outcome words s next left = then (load_outcome words) (step_outcome (loaded words) s (record { next = next; left = left }))

-- two singles as a point
abbrev pub two_singles : Float → Float → Singles
two_singles x y = record { x = x; y = y }

-- the same step with the point of its visit as two singles
abbrev pub pair_singles_step_outcome : List ℕ → Scramble → (next left : ℕ) → Outcome (Stepped (VisitCode Singles))
pair_singles_step_outcome words s next left =
    then (load_outcome words) (singles_step_outcome (loaded words) s (record { next = next; left = left }))

-- the query of a cell in a block; the definition below takes the block before the cell
abbrev pub pair_query_outcome : List ℕ → Scramble → (level m a column row block : ℕ) → Outcome ℕ
pair_query_outcome words s level m a column row block = then (load_outcome words) (query_outcome (loaded words) s level m a block column row)

-- the overview of many cells in a block
abbrev pub pair_overview_outcome : List ℕ → Scramble → (level m a block : ℕ) → (columns rows answers : List ℕ) → Outcome (List ℕ)
pair_overview_outcome words s level m a block columns rows answers =
    then (load_outcome words) (overview_outcome (loaded words) s level m a block columns rows answers)

-- the words of the standard pair; where there are not 64 words, they stay as they were
abbrev pub standard_words : List ℕ → List ℕ
standard_words words = granted (load_outcome words) (standard_pair.x ++ standard_pair.y) words
