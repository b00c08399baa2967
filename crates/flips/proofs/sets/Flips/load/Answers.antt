-- `Flips::load`: refused as the judgement is, and else what the bytes hold.
use Rattle.std.specs.Prelude.{Err}
use mathlib.Core.Path.{◌≡◌, sym, ap, ◌∙◌}
use borrow.Author.Rules.{rules}
use Rattle.refusal.specs.Outcome.{accepted}
use Rattle.refusal.specs.Refusal.{of_result}
use Rattle.refusal.proofs.First.{granted-accepted}
use Rattle.refusal.proofs.Results.{stops, passes}
use Rattle.flips.specs.declared.sets.Flips.{Flips}
use Rattle.flips.specs.Load.{flips_of, flips_tests, flips_outcome}
use Rattle.flips.proofs.sets.Flips.load.Goals as goal

pub returns-in_err-judge : goal.returns-in_err-judge
returns-in_err-judge c =
    let f = flips_of c.args.x.now c.args.y.now in
    let why = c.in_err-judge.field-0.0 in
    let back : c.from_residual.result ≡ Err why = search rules in
    ap (of_result (λ (g : Flips). g)) back
    ∙ stops (λ u. u) (flips_tests f) tt c.judge.result c.judge.ensures.answer why c.in_err-judge.was (accepted f)

pub returns : goal.returns
returns c =
    let f = flips_of c.args.x.now c.args.y.now in
    let j = c.judge in
    let judged : flips_outcome f ≡ accepted tt = passes (λ u. u) (flips_tests f) tt j.result j.ensures.answer tt c.in_ok-judge.was (accepted tt) in
    ap accepted (c.loaded.ensures ∙ granted-accepted _ _ judged)
    ∙ sym (passes (λ u. u) (flips_tests f) tt j.result j.ensures.answer tt c.in_ok-judge.was (accepted f))
