-- What an overview answers: many cells of one shape and block in one query (C-14).
use Rattle.std.specs.Prelude.{◌≡◌, ◌↔◌, Bool, false, ◌||◌, List, [], ◌∷◌, ℕ, zero, suc, ◌-◌, ◌^◌, ◌<◌, length, get_or, drop}
use Rattle.net.specs.Sequence.{Sequence}
use Rattle.net.specs.Scrambling.{plain}
use Rattle.net.specs.Shape.{determinant}
use Rattle.net.specs.Check.{least_index}
use Rattle.net.specs.Query.{visit_index}
use Rattle.refusal.specs.Outcome.{Outcome, accepted, refused, not_net, Test, first, then}
use Rattle.word.specs.Index.{index_bits}
use Rattle.flips.specs.declared.sets.Flips.{Flips}
use Rattle.flips.specs.Load.{not_flips, unused_set}
use Rattle.plan.specs.declared.pair.Plan.{Plan}
use Rattle.plan.specs.declared.points.Scramble.{Scramble}
use Rattle.plan.specs.Pair.{generators, sequence, unknown_level}
use Rattle.plan.specs.Fill.{lengths_differ}
use Rattle.stratify.specs.Answers.{above_level, not_a_shape, not_a_cell, not_a_block, query_tests, query_outcome}

-- 8: the columns, the rows and the answers are not equally many
abbrev pub buffers_differ : List ℕ → List ℕ → List ℕ → Test
buffers_differ cs rs answers = record { number = 8; holds = (lengths_differ cs rs).holds || (lengths_differ cs answers).holds }

-- an answer and then the others; the earliest refusal stands
unfoldable pub and_others : Outcome ℕ → Outcome (List ℕ) → Outcome (List ℕ)
and_others (accepted i) (accepted is) = accepted (i ∷ is)
and_others (accepted i) (refused n vs) = refused n vs
and_others (refused n vs) others = refused n vs

-- what single queries of the cells come to, in list order, as far as both lists go
unfoldable pub one_by_one : (ℕ → ℕ → Outcome ℕ) → List ℕ → List ℕ → Outcome (List ℕ)
one_by_one one (c ∷ cs) (r ∷ rs) = and_others (one c r) (one_by_one one cs rs)
one_by_one one [] rs = accepted []
one_by_one one (c ∷ cs) [] = accepted []

-- a query's tests without 6, which needs a cell
abbrev pub tests_without_cell : Flips → (level m a k : ℕ) → List Test
tests_without_cell f level m a k =
    unknown_level level ∷ not_flips f ∷ unused_set f ∷ above_level level m ∷ not_a_shape m a ∷ not_a_block 2 index_bits m k ∷ []

-- 3 of the shape
unfoldable pub shape_outcome : Plan → ℕ → ℕ → Outcome Unit
shape_outcome P m a =
    elim (determinant (generators P) m a) [ zero ↦ not_net m a (least_index (plain (generators P)) m a) | suc d ↦ accepted tt ]

-- the cells of a list: by their single queries; no cell: by a query's tests without 6
abbrev pub cells_outcome : Plan → Scramble → (level m a k : ℕ) → List ℕ → List ℕ → Outcome (List ℕ)
cells_outcome P s level m a k [] rs = first (tests_without_cell s.flips level m a k) (then (shape_outcome P m a) (accepted []))
cells_outcome P s level m a k (c ∷ cs) rs = one_by_one (query_outcome P s level m a k) (c ∷ cs) rs

-- what an overview comes to: 8, or what the earliest refused cell would get, or all answers
abbrev pub overview_outcome : Plan → Scramble → (level m a k : ℕ) → (cs rs answers : List ℕ) → Outcome (List ℕ)
overview_outcome P s level m a k cs rs answers = first (buffers_differ cs rs answers ∷ []) (cells_outcome P s level m a k cs rs)

-- ---- the order in which the tests may be made

-- whether some cell lies outside the shape
unfoldable pub some_outside : (m a : ℕ) → List ℕ → List ℕ → Bool
some_outside m a (c ∷ cs) (r ∷ rs) = (not_a_cell 2 m a c r).holds || some_outside m a cs rs
some_outside m a [] rs = false
some_outside m a (c ∷ cs) [] = false

-- 6 of the cells after the first
abbrev pub others_outside : (m a : ℕ) → List ℕ → List ℕ → Test
others_outside m a cs rs = record { number = 6; holds = some_outside m a (drop 1 cs) (drop 1 rs) }

-- the index of each cell
unfoldable pub visit_indexes : Sequence → (m a k : ℕ) → List ℕ → List ℕ → List ℕ
visit_indexes S m a k (c ∷ cs) (r ∷ rs) = visit_index S m a k c r ∷ visit_indexes S m a k cs rs
visit_indexes S m a k [] rs = []
visit_indexes S m a k (c ∷ cs) [] = []

-- after 8: 2, 17, 18, 4, 5, 6 of the first cell, 7; 3; 6 of the other cells; and then the index of each cell. Where there is no first cell, column 0
-- and row 0 stand for it, which every shape has.
abbrev pub ordered_outcome : Plan → Scramble → (level m a k : ℕ) → List ℕ → List ℕ → Outcome (List ℕ)
ordered_outcome P s level m a k cs rs =
    first (query_tests s.flips level m a k (get_or cs 0 0) (get_or rs 0 0))
    (then (shape_outcome P m a) (first (others_outside m a cs rs ∷ []) (accepted (visit_indexes (sequence P s) m a k cs rs))))

-- ---- what an overview says of the single queries

-- all are accepted, with these answers in list order
pub record EachAnswers (one : ℕ → ℕ → Outcome ℕ) (cs rs is : List ℕ) : Type 0 where
  pub as_many : length is ≡ length cs
  pub each : (i : ℕ) → i < length cs → one (get_or cs i 0) (get_or rs i 0) ≡ accepted (get_or is i 0)

-- the query of the cell at some place is refused so, and those before it are not refused
pub record EarliestRefused (one : ℕ → ℕ → Outcome ℕ) (cs rs : List ℕ) (n : ℕ) (vs : List ℕ) : Type 0 where
  pub place : ℕ
  pub inside : place < length cs
  pub refuses : one (get_or cs place 0) (get_or rs place 0) ≡ refused n vs
  pub earlier : (i : ℕ) → i < place → (index : ℕ) × (one (get_or cs i 0) (get_or rs i 0) ≡ accepted index)

-- Of a list that is not empty, the answers are those of the single queries, and a refusal is that of the earliest refused cell. The empty list
-- is judged as the query of column 0 and row 0, which every shape has. The tests may be made in the order of `ordered_outcome`.
pub record ByQueries (P : Plan) (s : Scramble) (level m a k : ℕ) (cs rs answers : List ℕ) : Type 0 where
  pub answered : (is : List ℕ) → 0 < length cs
      → (overview_outcome P s level m a k cs rs answers ≡ accepted is) ↔ EachAnswers (query_outcome P s level m a k) cs rs is
  pub earliest : (n : ℕ) (vs : List ℕ) → 0 < length cs
      → (overview_outcome P s level m a k cs rs answers ≡ refused n vs) ↔ EarliestRefused (query_outcome P s level m a k) cs rs n vs
  pub empty : length cs ≡ 0 → overview_outcome P s level m a k cs rs answers ≡ then (query_outcome P s level m a k 0 0) (accepted [])
  pub order : overview_outcome P s level m a k cs rs answers ≡ ordered_outcome P s level m a k cs rs

-- ---- what the tests let through

-- every cell lies inside the shape
abbrev pub AllInside : (m a : ℕ) → List ℕ → List ℕ → Type 0
AllInside m a cs rs = (i : ℕ) → i < length cs → (get_or cs i 0 < 2 ^ a) × (get_or rs i 0 < 2 ^ (m - a))
