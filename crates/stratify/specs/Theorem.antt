-- Demand 3 of 01, C-14's overview and C-15's counts, for all flips of C-16, about the definitions that the contracts cite: `sequence`, `filled`,
-- `step`, `check_outcome`, `query_outcome`, `overview_outcome`. First the statements, as records; at the end `Theorems`, the whole list with the
-- assumptions of each, of which proofs/Theorem gives one term. `sequence P s` is the points of the plan P (01: the pair) under the scramble s:
-- flips, and then a shift (01: the scramble).
use Rattle.std.specs.Prelude.{◌≡◌, ◌≢◌, ◌↔◌, List, [], ℕ, ◌+◌, ◌-◌, ◌*◌, ◌%◌, ◌^◌, ◌≤◌, ◌<◌, min, length, get_or, take, drop}
use Rattle.std.specs.Int.Bits.{bit_xor}
use Rattle.ranges.specs.Unique.{Only, One}
use Rattle.ranges.specs.Bounds.{CountBounds}
use Rattle.ranges.specs.Below.{Below}
use Rattle.ranges.specs.Walk.{Walk, answers, visits_then_end}
use Rattle.ranges.specs.Theorem.{Walked, WalkedByHand}
use Rattle.net.specs.Generators.{Valid, entry}
use Rattle.net.specs.Sequence.{column, row, VisitIn, Crowded, Least}
use Rattle.net.specs.Scrambling.{plain}
use Rattle.net.specs.Shape.{determinant, Passes}
use Rattle.net.specs.Check.{FirstCrowded, FirstZero}
use Rattle.net.specs.Run.{visit, visits, run, hits}
use Rattle.net.specs.Standard.{binomial}
use Rattle.refusal.specs.Outcome.{accepted, refused, not_net}
use Rattle.word.specs.Index.{index_bits, index_count, last_index}
use Rattle.plan.specs.declared.pair.Plan.{Plan}
use Rattle.plan.specs.declared.points.Shift.{Shift}
use Rattle.plan.specs.declared.points.Scramble.{Scramble}
use Rattle.plan.specs.Pair.{generators, only_shift, sequence, standard_pair, largest_level, Level, loaded}
use Rattle.plan.specs.Fill.{fill_outcome, filled}
use Rattle.plan.specs.Walk.{open_outcome}
use Rattle.plan.specs.Lists.{pointed, held, visits_walked}
use Rattle.stratify.specs.Answers.{ShiftFits, ScrambleFits, Cell, check_outcome, query_outcome}
use Rattle.stratify.specs.Strips.{plain_column, plain_row}
use Rattle.stratify.specs.Overview.{overview_outcome, ByQueries}

-- no flips, and both scramble words 0
abbrev pub unscrambled : Scramble
unscrambled = only_shift (record { x = 0; y = 0 })

-- ---- 1: one visit in every cell of every shape

-- column c and row r of block k: exactly one visit, which the query finds, and one visit in what point calls, a fill and the steps of a
-- walk give for the block
pub record VisitedOnce (P : Plan) (s : Scramble) (m a k c r : ℕ) : Type 0 where
  pub one_visit : One (VisitIn (sequence P s) m a k c r)
  pub query : (level : ℕ) → Level level → m ≤ level → query_outcome P s level m a k c r ≡ accepted one_visit.0
  pub points : hits (sequence P s) m a c r (pointed (sequence P s) (k * 2 ^ m) (2 ^ m)) ≡ 1
  pub fills : (xs ys : List ℕ) → fill_outcome index_count s.flips (k * 2 ^ m) xs ys ≡ accepted tt → 2 ^ m ≤ length xs
      → hits (sequence P s) m a c r (take (2 ^ m) (held (k * 2 ^ m) (filled index_count s.flips (sequence P s) (k * 2 ^ m) xs ys))) ≡ 1
  pub walks : (count n : ℕ) (w : Walk) → open_outcome index_count (k * 2 ^ m) count ≡ accepted w → 2 ^ m ≤ count → 2 ^ m ≤ n
      → hits (sequence P s) m a c r (take (2 ^ m) (visits_walked (sequence P s) n w)) ≡ 1

-- what passing level M is worth: this holds under all flips and every shift, in every shape of a size from 0 to M, every cell and every block
abbrev pub Covered : Plan → ℕ → Type 0
Covered P M = (s : Scramble) → ScrambleFits s → (m a k c r : ℕ) → Cell M m a k c r → VisitedOnce P s m a k c r

-- ---- 2: the relation of that visit to the plain run, without flips

-- with u and v the column and row of the block's first visit: p is the plain run's index for column c exclusive or u and row r
-- exclusive or v, the block's index for c and r is its first plus p, and that is what the query answers
pub record PlainRelation (P : Plan) (s : Scramble) (m a k c r p : ℕ) : Type 0 where
  pub plain_visit : Only (VisitIn (plain (generators P)) m a 0
      (bit_xor c (column (sequence P s) a (k * 2 ^ m))) (bit_xor r (row (sequence P s) (m - a) (k * 2 ^ m)))) p
  pub block_visit : Only (VisitIn (sequence P s) m a k c r) (k * 2 ^ m + p)
  pub answer : (level : ℕ) → Level level → m ≤ level → query_outcome P s level m a k c r ≡ accepted (k * 2 ^ m + p)

-- of a plan that passes level M: in all the cells and blocks that `Covered` speaks of, under every shift, where there are no flips
abbrev pub RelatedToPlain : Plan → ℕ → Type 0
RelatedToPlain P M = (s : Shift) → ShiftFits s → (m a k c r : ℕ) → Cell M m a k c r → (p : ℕ) × PlainRelation P (only_shift s) m a k c r p

-- ---- 3: the query of any plan, checked or not

-- it answers exactly where the determinant of its own shape is odd, and then with the only index of the block in the cell; else it
-- refuses under 3 with that shape and its least j
pub record Queried (P : Plan) (s : Scramble) (level m a k c r : ℕ) : Type 0 where
  pub answers_iff : ((i : ℕ) × (query_outcome P s level m a k c r ≡ accepted i)) ↔ (determinant (generators P) m a ≢ 0)
  pub answer_iff : (i : ℕ) → (query_outcome P s level m a k c r ≡ accepted i)
      ↔ ((determinant (generators P) m a ≢ 0) × Only (VisitIn (sequence P s) m a k c r) i)
  pub refuses_iff : ((j : ℕ) × (query_outcome P s level m a k c r ≡ not_net m a j)) ↔ (determinant (generators P) m a ≡ 0)
  pub refusal_iff : (j : ℕ) → (query_outcome P s level m a k c r ≡ not_net m a j)
      ↔ ((determinant (generators P) m a ≡ 0) × Least (plain (generators P)) m a j)

-- ---- 4: the check

-- It accepts exactly what passes. It refuses under 3 exactly where a determinant of a size within the level is even, exactly where a cell of
-- such a size holds two visits of the plain run. The shape that it names is the first in both readings, and j is the least.
pub record Checked (words : List ℕ) (level : ℕ) : Type 0 where
  pub accepted_iff : (check_outcome words level ≡ accepted tt) ↔ Passes (generators (loaded words)) level
  pub even_iff : ((m : ℕ) × (a : ℕ) × (j : ℕ) × (check_outcome words level ≡ not_net m a j))
      ↔ ((m : ℕ) × (a : ℕ) × (0 < m) × (m ≤ level) × (a ≤ m) × (determinant (generators (loaded words)) m a ≡ 0))
  pub crowded_iff : ((m : ℕ) × (a : ℕ) × (j : ℕ) × (check_outcome words level ≡ not_net m a j))
      ↔ ((m : ℕ) × (a : ℕ) × (m ≤ level) × (a ≤ m) × Crowded (plain (generators (loaded words))) m a)
  pub refusal_iff : (m a j : ℕ) → (check_outcome words level ≡ not_net m a j)
      ↔ (FirstCrowded (generators (loaded words)) level m a × Least (plain (generators (loaded words))) m a j)
  pub refusal_even_iff : (m a j : ℕ) → (check_outcome words level ≡ not_net m a j)
      ↔ (FirstZero (generators (loaded words)) level m a × Least (plain (generators (loaded words))) m a j)

-- ---- 5: points, fills and walks give the run

-- Each gives the visits of consecutive indexes. Of point calls that is their contract, index by index. For a walk it is ONE claim about
-- the list of n steps, steps after the end included; and what the last walk holds (`Walked`). Also for walks made by hand.
pub record Lists (P : Plan) (s : Scramble) : Type 0 where
  pub points : (start n : ℕ) → pointed (sequence P s) start n ≡ visits (sequence P s) start n
  pub fills : (start : ℕ) (xs ys : List ℕ) → fill_outcome index_count s.flips start xs ys ≡ accepted tt
      → held start (filled index_count s.flips (sequence P s) start xs ys) ≡ visits (sequence P s) start (length xs)
  pub opened : (start count : ℕ) (w : Walk) → open_outcome index_count start count ≡ accepted w → w ≡ record { next = start; left = count }
  pub steps : (start count : ℕ) (w : Walk) → open_outcome index_count start count ≡ accepted w
      → (n : ℕ) → answers (visit (sequence P s)) last_index n w ≡ visits_then_end (visit (sequence P s)) n start count
  pub walks : (start count : ℕ) (w : Walk) → open_outcome index_count start count ≡ accepted w
      → (n : ℕ) → visits_walked (sequence P s) n w ≡ visits (sequence P s) start (min n count)
  pub last_walk : (start count : ℕ) (w : Walk) → open_outcome index_count start count ≡ accepted w → start ≤ last_index
      → (n : ℕ) → Walked (visit (sequence P s)) last_index start count n
  pub by_hand : (w : Walk) (n : ℕ) → WalkedByHand (visit (sequence P s)) last_index w n

-- So, in block k: point calls give the run; a fill from its index p on writes the run from there, as far as it goes into the block; and
-- a walk opened at its first index gives the run, as far as it goes into the block.
pub record GivesRun (P : Plan) (s : Scramble) (m k : ℕ) : Type 0 where
  pub points : pointed (sequence P s) (k * 2 ^ m) (2 ^ m) ≡ run (sequence P s) m k
  pub fills : (p : ℕ) (xs ys : List ℕ) → fill_outcome index_count s.flips (k * 2 ^ m + p) xs ys ≡ accepted tt
      → take (2 ^ m - p) (held (k * 2 ^ m + p) (filled index_count s.flips (sequence P s) (k * 2 ^ m + p) xs ys))
      ≡ take (length xs) (drop p (run (sequence P s) m k))
  pub walks : (count n : ℕ) (w : Walk) → open_outcome index_count (k * 2 ^ m) count ≡ accepted w
      → take (2 ^ m) (visits_walked (sequence P s) n w) ≡ take (min n count) (run (sequence P s) m k)

-- ---- 6: counts that stop anywhere (C-15)

-- Bounds of how many of the n visits from start on lie in column c and row r of the shape (m, a): of the visits by their definition, as point
-- calls give them, as any fill that goes over them writes them, and as the steps of a walk opened at start give them, where n is the smaller
-- of the walk's count and the steps made.
pub record Counted (P : Plan) (s : Scramble) (m a c r start n : ℕ) : Type 0 where
  pub of_visits : CountBounds start n (2 ^ m) (hits (sequence P s) m a c r (visits (sequence P s) start n))
  pub points : CountBounds start n (2 ^ m) (hits (sequence P s) m a c r (pointed (sequence P s) start n))
  pub fills : (first : ℕ) (xs ys : List ℕ) → fill_outcome index_count s.flips first xs ys ≡ accepted tt → first ≤ start
      → start + n ≤ first + length xs
      → CountBounds start n (2 ^ m)
      (hits (sequence P s) m a c r (take n (drop (start - first) (held first (filled index_count s.flips (sequence P s) first xs ys)))))
  pub walks : (count steps : ℕ) (w : Walk) → open_outcome index_count start count ≡ accepted w → min steps count ≡ n
      → CountBounds start n (2 ^ m) (hits (sequence P s) m a c r (visits_walked (sequence P s) steps w))

-- what passing level M is worth: this holds under all flips and every shift, in every cell of every shape of a size from 0 to M, for every
-- start and every n from 1 on, as far as the indexes go
abbrev pub CountedAnywhere : Plan → ℕ → Type 0
CountedAnywhere P M = (s : Scramble) → ScrambleFits s → (m a c r : ℕ) → m ≤ M → a ≤ m → c < 2 ^ a → r < 2 ^ (m - a)
    → (start n : ℕ) → 1 ≤ n → start + n ≤ index_count → Counted P s m a c r start n

-- ---- the standard pair

-- X column c is 2^(31 - c), Y has a one in row r, column c exactly when the binomial is odd, and the pair passes level 32
pub record StandardPair : Type 0 where
  pub x : (c : ℕ) → c < 32 → get_or standard_pair.x c 0 ≡ 2 ^ (31 - c)
  pub y : (r c : ℕ) → r < 32 → c < 32 → entry 2 32 standard_pair.y r c ≡ binomial c r % 2
  pub valid : Valid (generators standard_pair)
  pub passes : Passes (generators standard_pair) largest_level
  pub covered : Covered standard_pair largest_level
  pub related : RelatedToPlain standard_pair largest_level
  pub counted : CountedAnywhere standard_pair largest_level

pub record Theorems : Type 0 where
  -- of a plan whose columns are words (as the code's are)
  pub covered : {P : Plan} → Valid (generators P) → {M : ℕ} → M ≤ largest_level → Passes (generators P) M → Covered P M
  pub related : {P : Plan} → Valid (generators P) → {M : ℕ} → M ≤ largest_level → Passes (generators P) M → RelatedToPlain P M
  pub counted : {P : Plan} → Valid (generators P) → {M : ℕ} → M ≤ largest_level → Passes (generators P) M → CountedAnywhere P M
  pub queried : {P : Plan} → Valid (generators P) → {s : Scramble} → ScrambleFits s
      → {level m a k c r : ℕ} → Level level → Cell level m a k c r → Queried P s level m a k c r
  -- the query under flips and a shift: both are undone on the cell, and then it is the query of the plain run
  pub led_back : {P : Plan} → Valid (generators P) → {s : Scramble} → ScrambleFits s → {level m a k c r : ℕ} → Level level → Cell level m a k c r
      → query_outcome P s level m a k c r ≡ query_outcome P unscrambled level m a k (plain_column s a c) (plain_row s m a r)
  -- (01: for m 0 the answer is the number of the block)
  pub size_zero : {P : Plan} → Valid (generators P) → {s : Scramble} → ScrambleFits s → {level : ℕ} → Level level
      → {k : ℕ} → k < 2 ^ index_bits → query_outcome P s level 0 0 k 0 0 ≡ accepted k
  -- of many cells in one query: 8 exactly where columns, rows and answers are not equally many, and what it comes to where they are
  pub overview_lengths : (P : Plan) (s : Scramble) (level m a k : ℕ) (cs rs answers : List ℕ)
      → (overview_outcome P s level m a k cs rs answers ≡ refused 8 []) ↔ ((length cs ≡ length rs) × (length cs ≡ length answers) → ⊥)
  pub overview : (P : Plan) (s : Scramble) (level m a k : ℕ) (cs rs answers : List ℕ) → length cs ≡ length rs → length cs ≡ length answers
      → ByQueries P s level m a k cs rs answers
  -- of 64 words
  pub checked : (words : List ℕ) → Below (2 ^ 32) words → length words ≡ 64 → {level : ℕ} → Level level → Checked words level
  pub accepted_covered : (words : List ℕ) → Below (2 ^ 32) words → (M : ℕ) → check_outcome words M ≡ accepted tt → Covered (loaded words) M
  pub accepted_related : (words : List ℕ) → Below (2 ^ 32) words → (M : ℕ) → check_outcome words M ≡ accepted tt
      → RelatedToPlain (loaded words) M
  pub accepted_counted : (words : List ℕ) → Below (2 ^ 32) words → (M : ℕ) → check_outcome words M ≡ accepted tt
      → CountedAnywhere (loaded words) M
  -- 01's plain run, both scramble words 0, is the run of `plain`
  pub unshifted : {P : Plan} → Valid (generators P) → sequence P unscrambled ≡ plain (generators P)
  -- of any plan and scramble
  pub lists : (P : Plan) (s : Scramble) → Lists P s
  pub gives_run : (P : Plan) (s : Scramble) (m k : ℕ) → GivesRun P s m k
  pub standard : StandardPair
