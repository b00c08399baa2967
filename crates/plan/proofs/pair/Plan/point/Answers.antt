-- `Plan::point`: refused where the flips are, and else the point.
use mathlib.Core.Path.{◌≡◌, sym, ap, ◌∙◌}
use Rattle.net.specs.Sequence.{point}
use Rattle.refusal.specs.Outcome.{accepted}
use Rattle.plan.specs.declared.points.Scramble.{Scramble}
use Rattle.plan.specs.Pair.{sequence, scramble_lent}
use Rattle.plan.proofs.Loading.{lent_passes, lent_holds}
use Rattle.plan.proofs.pair.Plan.point.Goals as goal

pub returns : goal.returns
returns c =
    let s = scramble_lent c.args.lent in
    let j = c.judge in
    let same : c.loaded.result ≡ s = c.loaded.ensures ∙ lent_holds s j.result j.ensures c.in_ok-judge.was in
    ap accepted (c.scrambled_point.ensures ∙ ap (λ (t : Scramble). point (sequence c.args.self t) c.args.index) same)
    ∙ sym (lent_passes s j.result j.ensures c.in_ok-judge.was _)
