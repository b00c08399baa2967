-- How an outcome reaches C: the answer as a number, and what the lent words hold after the call.
use Rattle.std.specs.Prelude.{ℕ, get_or}
use Rattle.ranges.specs.Walk.{Walk, Answer, visited, ended, Stepped}
use Rattle.refusal.specs.Outcome.{Outcome, accepted, refused, part_left}

-- 0, or the refusal's number in 01's table
abbrev pub answer_number : {A : Type 0} → Outcome A → ℕ
answer_number (accepted a) = 0
answer_number (refused n vs) = n

-- what is left in a word that is lent for value k of a refusal: refusal 3 gives m, a and j; every other answer leaves the old content
abbrev pub value_left : {A : Type 0} → Outcome A → ℕ → ℕ → ℕ
value_left (accepted a) k old = old
value_left (refused n vs) k old = get_or vs k old

-- ---- steps of a walk

-- the words lent to a step: the walk, whether there was a visit, and the visit's index and point
pub record StepWords (P : Type 0) : Type 0 where
  pub next : ℕ
  pub left : ℕ
  pub given : ℕ
  pub index : ℕ
  pub point : P

-- those words by their contents
abbrev pub step_words : {P : Type 0} → (next left given index : ℕ) → P → StepWords P
step_words next left given index point = record { next = next; left = left; given = given; index = index; point = point }

-- what is left in them after a step: the walk after it, and 1 with the index and the point of its visit; or, at the end of the walk, 0 with
-- the old index and point
abbrev pub left_by_step : {A P : Type 0} → Walk → Answer A → (A → ℕ) → (A → P) → StepWords P → StepWords P
left_by_step w (visited v) index point old = step_words w.next w.left 1 (index v) (point v)
left_by_step w ended index point old = step_words w.next w.left 0 old.index old.point

-- what a call leaves in them; a refused one leaves all as they were
abbrev pub left_in : {A P : Type 0} → Outcome (Stepped A) → (A → ℕ) → (A → P) → StepWords P → StepWords P
left_in o index point old = part_left o (λ s. left_by_step s.walk s.answer index point old) old
