-- `step_singles`: the plan's step, its visit as singles.
use Rattle.std.specs.Prelude.{Option, Some, None, Result, Ok}
use mathlib.Core.Path.{◌≡◌, sym, ap, ◌∙◌}
use borrow.Author.Rules.{rules}
use Rattle.ranges.specs.Walk.{Answer, visited}
use Rattle.refusal.specs.Outcome.{Outcome, accepted}
use Rattle.refusal.specs.Refusal.{of_result}
use Rattle.refusal.specs.declared.Refusal.{Refusal}
use Rattle.plan.specs.declared.points.Point.{Point}
use Rattle.plan.specs.declared.walks.Visit.{Visit}
use Rattle.plan.specs.Pair.{scramble_lent}
use Rattle.plan.specs.Walk.{of_visit, of_walk, answer_of}
use Rattle.unit.specs.declared.pairs.Singles.{Singles}
use Rattle.unit.proofs.Mapped.{singles_answer, singles_step}
use Rattle.unit.proofs.steps.step_singles.Goals as goal

-- what is told of a step of the plan, its visit as singles
abbrev told : Result (Option (Visit Point)) Refusal → Outcome (Answer (Visit Singles))
told r = singles_answer (of_result (answer_of of_visit) r)

pub returns-in-Err : goal.returns-in-Err
returns-in-Err c =
    let step = c.step-given.ensures in
    let both = singles_step c.args.plan (scramble_lent c.args.lent) (of_walk c.args.walk) (sym (ap told c.in-Err.is)) step.step step.walk in
    record { step = both.0; walk = both.1 }

pub returns-in-Ok-None : goal.returns-in-Ok-None
returns-in-Ok-None c =
    let is : c.step-given.result.0 ≡ Ok None = search rules in
    let step = c.step-given.ensures in
    let both = singles_step c.args.plan (scramble_lent c.args.lent) (of_walk c.args.walk) (sym (ap told is)) step.step step.walk in
    record { step = both.0; walk = both.1 }

pub returns-in-Ok-Some : goal.returns-in-Ok-Some
returns-in-Ok-Some c =
    let is : c.step-given.result.0 ≡ Ok (Some c.in-Ok-Some.visit) = search rules in
    let step = c.step-given.ensures in
    let made = ap (λ (v : Visit Singles). accepted (visited v)) c.in_singles.ensures in
    let both = singles_step c.args.plan (scramble_lent c.args.lent) (of_walk c.args.walk) (made ∙ sym (ap told is)) step.step step.walk in
    record { step = both.0; walk = both.1 }
