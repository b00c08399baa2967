-- Steps of a walk with the point of each visit as singles: a step commutes with any function of the visits. Assumes nothing.
use mathlib.Core.Path.{◌≡◌, refl, sym, ap, ◌∙◌}
use mathlib.Core.Logic.{◌⊎◌, inl, inr, ◌≢◌}
use Prim.Native.Nat.{ℕ, zero, suc, ◌≤◌, ◌<◌}
use native.Mathlib.Omega.{arith}
use Rattle.ranges.specs.Walk.{Walk, Answer, visited, ended, Stepped, step}
use Rattle.ranges.proofs.Order.{lt_or_ge, eq_or_ne}
use Rattle.ranges.proofs.Walk.{step-none, step_past, step_last, step-more}
use Rattle.net.specs.Run.{Visit, visit}
use Rattle.refusal.specs.Outcome.{Outcome, accepted, refused, first, part_left, through}
use Rattle.refusal.proofs.First.{through-first}
use Rattle.word.specs.Index.{last_index}
use Rattle.flips.specs.Load.{flips_tests}
use Rattle.plan.specs.declared.pair.Plan.{Plan}
use Rattle.plan.specs.declared.points.Scramble.{Scramble}
use Rattle.plan.specs.Pair.{sequence}
use Rattle.plan.specs.Walk.{step_outcome}
use Rattle.plan.specs.declared.walks.Visit.{Visit as VisitCode}
use Rattle.unit.specs.declared.pairs.Singles.{Singles}
use Rattle.unit.specs.Singles.{singles_of, singles_step_outcome}

abbrev map_answer : {A B : Type 0} → (A → B) → Answer A → Answer B
map_answer f (visited a) = visited (f a)
map_answer f ended = ended

abbrev mapped : {A B : Type 0} → (A → B) → Stepped A → Stepped B
mapped f s = record { answer = map_answer f s.answer; walk = s.walk }

step-mapped : {A B : Type 0} (f : A → B) (visit-of : ℕ → A) (last s l : ℕ)
    → mapped f (step visit-of last (record { next = s; left = l })) ≡ step (λ i. f (visit-of i)) last (record { next = s; left = l })
step-mapped f visit-of last s zero = ap (mapped f) (step-none visit-of last s) ∙ sym (step-none (λ i. f (visit-of i)) last s)
step-mapped f visit-of last s (suc l) = go (lt_or_ge last s) (eq_or_ne s last)
  where
    go : (last < s) ⊎ (s ≤ last) → (s ≡ last) ⊎ (s ≢ last)
        → mapped f (step visit-of last (record { next = s; left = suc l })) ≡ step (λ i. f (visit-of i)) last (record { next = s; left = suc l })
    go (inl past) either = ap (mapped f) (step_past visit-of last s (suc l) past) ∙ sym (step_past (λ i. f (visit-of i)) last s (suc l) past)
    go (inr within) (inl at) = ap (mapped f) (step_last visit-of last s l at) ∙ sym (step_last (λ i. f (visit-of i)) last s l at)
    go (inr within) (inr other) =
        let less : s < last = omega arith in
        ap (mapped f) (step-more visit-of last s l less) ∙ sym (step-more (λ i. f (visit-of i)) last s l less)

abbrev as_singles : Visit → VisitCode Singles
as_singles v = record { index = v.index; at = singles_of (v.x, v.y) }

-- an answer with its visit as singles
abbrev pub singles_answer : Outcome (Answer Visit) → Outcome (Answer (VisitCode Singles))
singles_answer = through (map_answer as_singles)

-- the step of a plan with its visit as singles
outcome-mapped : (P : Plan) (s : Scramble) (w : Walk) → through (mapped as_singles) (step_outcome P s w) ≡ singles_step_outcome P s w
outcome-mapped P s w =
    through-first (mapped as_singles) (flips_tests s.flips) (accepted (step (visit (sequence P s)) last_index w))
    ∙ ap (λ (t : Stepped (VisitCode Singles)). first (flips_tests s.flips) (accepted t))
    (step-mapped as_singles (visit (sequence P s)) last_index w.next w.left)

answer-mapped : (o : Outcome (Stepped Visit)) → singles_answer (through (λ (t : Stepped Visit). t.answer) o)
    ≡ through (λ (t : Stepped (VisitCode Singles)). t.answer) (through (mapped as_singles) o)
answer-mapped (accepted t) = refl
answer-mapped (refused n vs) = refl

walk-mapped : (o : Outcome (Stepped Visit)) (w : Walk)
    → part_left o (λ (t : Stepped Visit). t.walk) w ≡ part_left (through (mapped as_singles) o) (λ (t : Stepped (VisitCode Singles)). t.walk) w
walk-mapped (accepted t) w = refl
walk-mapped (refused n vs) w = refl

-- the two promises of a return: the answer is the plan's as singles, and the walk the plan's
pub singles_step : (P : Plan) (s : Scramble) (w : Walk) {answer : Outcome (Answer Visit)} {given : Outcome (Answer (VisitCode Singles))}
    {after : Walk}
    → given ≡ singles_answer answer
    → answer ≡ through (λ (t : Stepped Visit). t.answer) (step_outcome P s w)
    → after ≡ part_left (step_outcome P s w) (λ (t : Stepped Visit). t.walk) w
    → (given ≡ through (λ (t : Stepped (VisitCode Singles)). t.answer) (singles_step_outcome P s w))
    × (after ≡ part_left (singles_step_outcome P s w) (λ (t : Stepped (VisitCode Singles)). t.walk) w)
singles_step P s w is told walked = (
  is ∙ ap singles_answer told ∙ answer-mapped (step_outcome P s w)
      ∙ ap (through (λ (t : Stepped (VisitCode Singles)). t.answer)) (outcome-mapped P s w),
  walked ∙ walk-mapped (step_outcome P s w) w
      ∙ ap (λ (o : Outcome (Stepped (VisitCode Singles))). part_left o (λ t. t.walk) w) (outcome-mapped P s w),
)
