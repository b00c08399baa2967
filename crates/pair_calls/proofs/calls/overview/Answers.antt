-- `overview`: refused where the words are, and else the overview with their matrices.
use Rattle.std.specs.Prelude.{Err}
use mathlib.Core.Path.{◌≡◌, sym, ap, ◌∙◌}
use mathlib.Core.List.{List}
use Prim.Native.Nat.{ℕ}
use borrow.Author.Rules.{rules}
use Rattle.refusal.specs.Outcome.{Outcome, accepted, then, part_left}
use Rattle.refusal.specs.Refusal.{of_judgement}
use Rattle.refusal.proofs.First.{then-refused}
use Rattle.plan.specs.Pair.{scramble_lent, loaded}
use Rattle.stratify.specs.Overview.{overview_outcome}
use Rattle.pair_calls.proofs.Loading.{pair_stops, pair_gives}
use Rattle.pair_calls.proofs.calls.overview.Goals as goal

pub returns-in_err-judge : goal.returns-in_err-judge
returns-in_err-judge c =
    let a = c.args in
    let back : c.from_residual.result ≡ Err c.in_err-judge.field-0.0 = search rules in
    let stop = pair_stops a.words.now c.judge.result c.judge.ensures _ c.in_err-judge.was
    (overview_outcome (loaded a.words.now) (scramble_lent a.lent) a.level a.m a.a a.block a.columns.now a.rows.now a.answers.now) in
    record {
      answer = ap of_judgement back ∙ sym (then-refused (accepted tt) (sym stop));
      answers = ap (λ (o : Outcome (List ℕ)). part_left o (λ is. is) a.answers.now) stop;
    }

pub returns : goal.returns
returns c =
    let a = c.args in
    let same = pair_gives a.words.now c.judge.result c.judge.ensures c.in_ok-judge.was c.loaded.ensures
    (λ P. overview_outcome P (scramble_lent a.lent) a.level a.m a.a a.block a.columns.now a.rows.now a.answers.now) in
    record {
      answer = c.overview.ensures.answer ∙ ap (λ (o : Outcome (List ℕ)). then o (accepted tt)) same;
      answers = c.overview.ensures.answers ∙ ap (λ (o : Outcome (List ℕ)). part_left o (λ is. is) a.answers.now) same;
    }
