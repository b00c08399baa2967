-- `Plan::load`: refused as the judgement is, and else what the words hold.
use Rattle.std.specs.Prelude.{Err}
use mathlib.Core.Path.{◌≡◌, sym, ap, ◌∙◌}
use mathlib.Core.List.{[], ◌∷◌}
use borrow.Author.Rules.{rules}
use Rattle.refusal.specs.Outcome.{accepted}
use Rattle.refusal.specs.Refusal.{of_result}
use Rattle.refusal.proofs.Results.{stops, passes}
use Rattle.plan.specs.declared.pair.Plan.{Plan}
use Rattle.plan.specs.Pair.{not_a_pair, loaded}
use Rattle.plan.proofs.pair.Plan.load.Goals as goal

pub returns-in_err-judge : goal.returns-in_err-judge
returns-in_err-judge c =
    let w = c.args.words.now in
    let why = c.in_err-judge.field-0.0 in
    let back : c.from_residual.result ≡ Err why = search rules in
    ap (of_result (λ (P : Plan). P)) back
    ∙ stops (λ u. u) (not_a_pair w ∷ []) tt c.judge.result c.judge.ensures why c.in_err-judge.was (accepted (loaded w))

pub returns : goal.returns
returns c =
    let w = c.args.words.now in
    ap accepted c.loaded.ensures
    ∙ sym (passes (λ u. u) (not_a_pair w ∷ []) tt c.judge.result c.judge.ensures tt c.in_ok-judge.was (accepted (loaded w)))
