-- `fill`: refused where the words are, and else the fill of their matrices.
use Rattle.std.specs.Prelude.{Err}
use mathlib.Core.Path.{◌≡◌, sym, ap, ◌∙◌}
use borrow.Author.Rules.{rules}
use Rattle.refusal.specs.Refusal.{of_judgement}
use Rattle.refusal.proofs.First.{granted-accepted, granted-refused}
use Rattle.word.specs.Index.{index_count}
use Rattle.plan.specs.declared.pair.Plan.{Plan}
use Rattle.plan.specs.Pair.{scramble_lent, sequence}
use Rattle.plan.specs.Fill.{Buffers, fill_outcome, filled}
use Rattle.pair_calls.proofs.Loading.{pair_stops, pair_gives, load_stops, load_passes}
use Rattle.pair_calls.proofs.calls.fill.Goals as goal

pub returns-in_err-judge : goal.returns-in_err-judge
returns-in_err-judge c =
    let w = c.args.words.now in
    let back : c.from_residual.result ≡ Err c.in_err-judge.field-0.0 = search rules in
    let kept = granted-refused _ _ (load_stops w c.judge.result c.judge.ensures _ c.in_err-judge.was) in
    record {
      answer = ap of_judgement back ∙ pair_stops w c.judge.result c.judge.ensures _ c.in_err-judge.was _;
      xs = sym (ap (λ (b : Buffers). b.x) kept);
      ys = sym (ap (λ (b : Buffers). b.y) kept);
    }

pub returns : goal.returns
returns c =
    let a = c.args in
    let s = scramble_lent a.lent in
    let same = c.loaded.ensures in
    let done = granted-accepted _ _ (load_passes a.words.now c.judge.result c.judge.ensures c.in_ok-judge.was) in
    let of = λ (P : Plan). filled index_count s.flips (sequence P s) a.start a.xs.now a.ys.now in
    record {
      answer = c.fill.ensures.answer ∙ pair_gives a.words.now c.judge.result c.judge.ensures c.in_ok-judge.was c.loaded.ensures
          (λ P. fill_outcome index_count s.flips a.start a.xs.now a.ys.now);
      xs = c.fill.ensures.first ∙ ap (λ (P : Plan). (of P).x) same ∙ sym (ap (λ (b : Buffers). b.x) done);
      ys = c.fill.ensures.second ∙ ap (λ (P : Plan). (of P).y) same ∙ sym (ap (λ (b : Buffers). b.y) done);
    }
