-- What opening a walk and a step come to, and the code's walks, visits and steps as the definitions have them.
use Rattle.std.specs.Prelude.{[], ◌∷◌, ℕ, Option, Some, None}
use Rattle.ranges.specs.Walk.{Walk, Answer, visited, ended, Stepped, step}
use Rattle.net.specs.Run.{Visit, visit}
use Rattle.refusal.specs.Outcome.{Outcome, accepted, first}
use Rattle.word.specs.Index.{last_index}
use Rattle.flips.specs.Load.{flips_tests}
use Rattle.plan.specs.Range.{past_last}
use Rattle.plan.specs.Pair.{sequence}
use Rattle.plan.specs.declared.pair.Plan.{Plan}
use Rattle.plan.specs.declared.points.Scramble.{Scramble}
use Rattle.plan.specs.declared.points.Point.{Point}
use Rattle.plan.specs.declared.walks.Walk.{Walk as WalkCode}
use Rattle.plan.specs.declared.walks.Visit.{Visit as VisitCode}

-- a walk over count visits from start on, or a refusal, where there are n indexes
abbrev pub open_outcome : (n start count : ℕ) → Outcome Walk
open_outcome n start count = first (past_last n start count ∷ []) (accepted (record { next = start; left = count }))

-- a step from the walk w: refused under 17 or 18, in this order, also where the walk has ended; else the visit or the end, and the walk after it
abbrev pub step_outcome : Plan → Scramble → Walk → Outcome (Stepped Visit)
step_outcome P s w = first (flips_tests s.flips) (accepted (step (visit (sequence P s)) last_index w))

-- field by field, and case by case
abbrev pub of_walk : WalkCode → Walk
of_walk w = record { next = w.next; left = w.left }

abbrev pub of_visit : VisitCode Point → Visit
of_visit v = record { index = v.index; x = v.at.x; y = v.at.y }

-- what a step gives, its visit read by f
abbrev pub answer_of : {A B : Type 0} → (A → B) → Option A → Answer B
answer_of f (Some v) = visited (f v)
answer_of f None = ended
