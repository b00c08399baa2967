-- `Walk::step`: refused where the flips are, and else the tests of the step of ranges, in its order.
use mathlib.Core.Path.{◌≡◌, refl, sym, ap, ◌∙◌}
use native.Mathlib.Omega.{arith}
use borrow.Author.Tests.{eq-eqb, ne_eqb, le-ltb}
use Rattle.ranges.specs.Walk.{Stepped, step}
use Rattle.net.specs.Run.{Visit, visit}
use Rattle.refusal.specs.Outcome.{accepted}
use Rattle.word.specs.Index.{last_index}
use Rattle.plan.specs.declared.points.Scramble.{Scramble}
use Rattle.plan.specs.Pair.{sequence, scramble_lent, scramble_loaded}
use Rattle.plan.specs.Walk.{of_walk, step_outcome}
use Rattle.plan.proofs.Laws.{tells, step-refused, step_taken}
use Rattle.plan.proofs.Loading.{lent_stops, lent_passes, lent_holds}
use Rattle.plan.proofs.walks.Walk.step.Goals as goal
use Rattle.plan.proofs.walks.Walk.step.Goals.{In_default}

-- the step of ranges under the scramble that is loaded is what the call comes to
abbrev under : goal.In_default → Scramble → Stepped Visit
under d s = step (visit (sequence d.args.plan s)) last_index (of_walk d.args.self)

taken : (d : goal.In_default) {s : Scramble} → s ≡ scramble_loaded (scramble_lent d.args.lent) → {t : Stepped Visit} → t ≡ under d s
    → accepted t ≡ step_outcome d.args.plan (scramble_lent d.args.lent) (of_walk d.args.self)
taken d e made =
    let s = scramble_lent d.args.lent in
    let j = d.judge in
    ap accepted (made ∙ ap (under d) (e ∙ lent_holds s j.result j.ensures d.in_default.is))
    ∙ sym (lent_passes s j.result j.ensures d.in_default.is _)

pub returns-in-Err : goal.returns-in-Err
returns-in-Err c =
    let s = scramble_lent c.args.lent in
    let stop = lent_stops s c.judge.result c.judge.ensures _ c.in-Err.is
    (accepted (step (visit (sequence c.args.plan s)) last_index (of_walk c.args.self))) in
    let both = step-refused (of_walk c.args.self) stop in
    record { step = both.0; walk = both.1 }

pub returns-then-left-eq0 : goal.returns-then-left-eq0
unfolding step
returns-then-left-eq0 c =
    let both = step_taken (of_walk c.args.self) (taken (goal.at.returns-then-left-eq0 c).In_default refl (simp
    (eq-eqb _ _ c.if-left-eq0.true, step))) in record { step = both.0; walk = both.1 }

pub returns-then-next : goal.returns-then-next
unfolding step
returns-then-next c =
    let w = c.args.self in
    let both = step_taken (of_walk w) (taken (goal.at.returns-then-next c).In_default c.loaded.ensures
    (simp (ne_eqb _ _ c.if-left-eq0.false, le-ltb last_index w.next (omega arith), eq-eqb _ _ c.if-next.true, step)
    (tells (sequence c.args.plan c.loaded.result) _ w.next _ _ c.scrambled_point-at.ensures))) in record { step = both.0; walk = both.1 }

pub returns : goal.returns
unfolding step
returns c =
    let w = c.args.self in
    let both = step_taken (of_walk w) (taken (goal.at.returns c).In_default c.loaded.ensures
    (simp (ne_eqb _ _ c.if-left-eq0.false, le-ltb last_index w.next (omega arith), ne_eqb _ _ c.if-next.false, step)
    (tells (sequence c.args.plan c.loaded.result) _ w.next _ _ c.scrambled_point-at.ensures))) in record { step = both.0; walk = both.1 }
