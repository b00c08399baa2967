-- `query`: what its tests decide is decided, and past them the cell is found.
use Rattle.std.specs.Prelude.{Err}
use mathlib.Core.Path.{◌≡◌, sym, ap, ◌∙◌}
use mathlib.Core.List.{List}
use Prim.Native.Nat.{ℕ}
use borrow.Author.Rules.{rules}
use lib.ListN.{get_or}
use mir.Syntax.{w32}
use mir.Val.{Fits}
use Rattle.net.specs.Query.{locate}
use Rattle.refusal.specs.Outcome.{Outcome, accepted, Test, first}
use Rattle.refusal.specs.Refusal.{of_result}
use Rattle.refusal.proofs.Results.{stops, passes, gives}
use Rattle.plan.specs.declared.points.Scramble.{Scramble}
use Rattle.plan.specs.Pair.{generators, scrambling, scramble_lent}
use Rattle.plan.proofs.Laws.{words_valid}
use Rattle.stratify.specs.Answers.{of_location, query_tests, Cell}
use Rattle.stratify.proofs.Outcomes.{cell_of}
use Rattle.stratify.proofs.queries.query.Goals as goal
use Rattle.stratify.proofs.queries.query.Goals.{Start}

abbrev lent : goal.Start → Scramble
lent s = scramble_lent s.args.lent

abbrev tests : goal.Start → List Test
tests s = let a = s.args in query_tests (lent s).flips a.level a.m a.a a.block a.column a.row

abbrev located : goal.Start → (s : Scramble) → (m a : ℕ) → Outcome ℕ
located t s m a =
    let c = t.args in
    of_location m a (locate (generators c.plan) (scrambling s) m a c.block c.column c.row)

pub returns-in_err-scramble : goal.returns-in_err-scramble
returns-in_err-scramble c =
    let s = (goal.at.returns-in_err-scramble c).Start in
    let why = c.in_err-scramble.field-0.0 in
    let back : c.from_residual.result ≡ Err why = search rules in
    ap (of_result (λ i. i)) back
    ∙ stops (λ j. j.0) (tests s) (lent s) c.judge.result c.judge.ensures.scramble why c.in_err-scramble.was (located s (lent s) c.args.m c.args.a)

pub find-requires : goal.find-requires
find-requires c =
    let a = c.args in
    let s = (goal.at.find-requires c).Start in
    let ok = c.in_ok-scramble in
    let through : ◌≡◌ {A = Outcome Unit} (first (tests s) (accepted tt)) (accepted tt) =
    passes (λ j. j.0) (tests s) (lent s) c.judge.result c.judge.ensures.scramble (ok.scramble, ok.shape) ok.was (accepted tt) in
    let cell : Cell 32 ok.shape.m ok.shape.a a.block a.column a.row =
    rw (ok.ensures.shape.0, ok.ensures.shape.1) (cell_of (lent s).flips a.level a.m a.a a.block a.column a.row through) in (
      words_valid a.plan.x a.plan.y
          (λ t. let f : Fits w32 (get_or a.plan.x t 0) = search rules in f.fits)
          (λ t. let f : Fits w32 (get_or a.plan.y t 0) = search rules in f.fits),
      record {
        x = let f : Fits w32 ok.scramble.shift.x = search rules in f.fits;
        y = let f : Fits w32 ok.scramble.shift.y = search rules in f.fits;
      },
      cell,
    )

pub returns : goal.returns
returns c =
    let a = c.args in
    let s = (goal.at.returns c).Start in
    let ok = c.in_ok-scramble in
    let is = gives (λ j. j.0) (tests s) (lent s) c.judge.result c.judge.ensures.scramble (ok.scramble, ok.shape) ok.was in
    c.find.ensures
    ∙ ap (λ (m : ℕ). located s ok.scramble m ok.shape.a) ok.ensures.shape.0
    ∙ ap (λ (n : ℕ). located s ok.scramble a.m n) ok.ensures.shape.1
    ∙ ap (λ (t : Scramble). located s t a.m a.a) is
    ∙ sym (passes (λ j. j.0) (tests s) (lent s) c.judge.result c.judge.ensures.scramble (ok.scramble, ok.shape) ok.was
    (located s (lent s) a.m a.a))
