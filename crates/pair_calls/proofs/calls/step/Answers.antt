-- `step`: refused where the words are, and else the step with their matrices.
use mathlib.Core.Path.{ap, ◌∙◌}
use Rattle.refusal.specs.Outcome.{part_left, through}
use Rattle.plan.specs.Pair.{scramble_lent, loaded}
use Rattle.plan.specs.Walk.{of_walk, step_outcome}
use Rattle.pair_calls.proofs.Loading.{pair_stops, pair_gives}
use Rattle.pair_calls.proofs.calls.step.Goals as goal

pub returns-in-Err : goal.returns-in-Err
returns-in-Err c =
    let stop = pair_stops c.args.words.now c.judge.result c.judge.ensures _ c.in-Err.is
    (step_outcome (loaded c.args.words.now) (scramble_lent c.args.lent) (of_walk c.args.walk)) in
    record {
      step = ap (through (λ t. t.answer)) stop;
      walk = ap (λ o. part_left o (λ t. t.walk) (of_walk c.args.walk)) stop;
    }

pub returns-in-Ok : goal.returns-in-Ok
returns-in-Ok c =
    let a = c.args in
    let same = pair_gives a.words.now c.judge.result c.judge.ensures c.in-Ok.is c.loaded.ensures
    (λ P. step_outcome P (scramble_lent a.lent) (of_walk a.walk)) in
    record {
      step = c.step.ensures.step ∙ ap (through (λ t. t.answer)) same;
      walk = c.step.ensures.walk ∙ ap (λ o. part_left o (λ t. t.walk) (of_walk a.walk)) same;
    }
