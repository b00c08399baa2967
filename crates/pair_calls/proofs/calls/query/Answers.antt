-- `query`: refused where the words are, and else the query of their matrices.
use Rattle.std.specs.Prelude.{Err}
use mathlib.Core.Path.{◌≡◌, ap, ◌∙◌}
use borrow.Author.Rules.{rules}
use Rattle.refusal.specs.Refusal.{of_result}
use Rattle.plan.specs.Pair.{scramble_lent}
use Rattle.stratify.specs.Answers.{query_outcome}
use Rattle.pair_calls.proofs.Loading.{pair_stops, pair_gives}
use Rattle.pair_calls.proofs.calls.query.Goals as goal

pub returns-in_err-judge : goal.returns-in_err-judge
returns-in_err-judge c =
    let back : c.from_residual.result ≡ Err c.in_err-judge.field-0.0 = search rules in
    ap (of_result (λ i. i)) back ∙ pair_stops c.args.words.now c.judge.result c.judge.ensures _ c.in_err-judge.was _

pub returns : goal.returns
returns c =
    let a = c.args in
    c.query.ensures ∙ pair_gives a.words.now c.judge.result c.judge.ensures c.in_ok-judge.was c.loaded.ensures
    (λ P. query_outcome P (scramble_lent a.lent) a.level a.m a.a a.block a.column a.row)
