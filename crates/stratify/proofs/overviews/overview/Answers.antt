-- `overview`: the tests in an order that comes to the same, and then the answers.
use Rattle.std.specs.Prelude.{Ok, Err}
use mathlib.Core.Path.{◌≡◌, refl, sym, ap, ap₂, ◌∙◌, subst}
use mathlib.Core.Logic.{inl, inr}
use mathlib.Core.List.{List, [], ◌∷◌}
use Prim.Native.Nat.{ℕ}
use native.Mathlib.Omega.{arith}
use borrow.Author.Rules.{rules}
use lib.ListN.{length, get_or}
use lib.Pow.{pow_pos}
use mir.Syntax.{w32}
use mir.Val.{Fits}
use Rattle.net.specs.Shape.{Shape}
use Rattle.refusal.specs.Outcome.{Outcome, accepted, Test, first}
use Rattle.refusal.specs.Refusal.{of_result, of_judgement}
use Rattle.refusal.specs.declared.Refusal.TheVariants as variant
use Rattle.refusal.proofs.First.{first-none, first_passes, first-refuses}
use Rattle.refusal.proofs.Results.{stops, passes, gives}
use Rattle.plan.specs.declared.points.Scramble.{Scramble}
use Rattle.plan.specs.declared.points.LentScramble.{LentScramble}
use Rattle.plan.specs.Pair.{generators, sequence, scramble_lent}
use Rattle.plan.proofs.Laws.{words_valid}
use Rattle.elimination.specs.Elimination.{ShapeColumns, ShapeInverse, Inverts}
use Rattle.elimination.proofs.Shapes.{least-of_kernel, determinant-nonzero, inverse-of-shape}
use Rattle.stratify.specs.Answers.{query_tests, Cell}
use Rattle.stratify.specs.Overview.{AllInside, others_outside, overview_outcome, visit_indexes}
use Rattle.stratify.proofs.Outcomes.{cell_passed, cell_of}
use Rattle.stratify.proofs.Answered.{inside}
use Rattle.stratify.proofs.Mapped.{made_of}
use Rattle.stratify.proofs.Overviewed.{refuses, accepts, lengths_decide, tests_refuse, shape-refuses, shape-passes}
use Rattle.stratify.proofs.overviews.overview.Goals as goal
use Rattle.stratify.proofs.overviews.overview.Goals.{After-judge, After-others_outside, After-shape_columns}

-- ---- 8
pub returns-then-n-rows : goal.returns-then-n-rows
returns-then-n-rows c =
    let a = c.args in
    let differ : (length a.columns.now ≡ length a.rows.now) × (length a.columns.now ≡ length a.answers.now) → ⊥ =
    λ (e, f). elim c.then-n-rows.either [ inl ne ↦ ne e | inr q ↦ q.1 f ] in
    let both = refuses a.answers.now
    ((lengths_decide a.plan (scramble_lent a.lent) a.level a.m a.a a.block a.columns.now a.rows.now a.answers.now).1 differ) in
    record { answer = both.0; answers = both.1 }

-- ---- the tests before 3, where the buffers are equally long
abbrev tests : LentScramble → (level m a k : ℕ) → List ℕ → List ℕ → List Test
tests t level m a k cs rs = query_tests (scramble_lent t).flips level m a k (get_or cs 0 0) (get_or rs 0 0)

judged : (t : LentScramble) (level m a k c r : ℕ) (cs rs : List ℕ) {o : Outcome Scramble}
    → o ≡ first (query_tests (scramble_lent t).flips level m a k c r) (accepted (scramble_lent t)) → c ≡ get_or cs 0 0 → r ≡ get_or rs 0 0
    → o ≡ first (tests t level m a k cs rs) (accepted (scramble_lent t))
judged t level m a k c r cs rs is column row =
    is ∙ ap₂ (λ (c r : ℕ). first (query_tests (scramble_lent t).flips level m a k c r) (accepted (scramble_lent t))) column row

-- what `judge` says of the first cell, as the definition asks for it
judged_here : (c : goal.After-judge) → let a = c.args in
    of_result (λ j. j.0) c.judge.result
    ≡ first (tests a.lent a.level a.m a.a a.block a.columns.now a.rows.now) (accepted (scramble_lent a.lent))
judged_here c =
    let a = c.args in
    judged a.lent a.level a.m a.a a.block _ _ a.columns.now a.rows.now c.judge.ensures.scramble (search rules) (search rules)

pub returns-in_err-scramble : goal.returns-in_err-scramble
returns-in_err-scramble c =
    let a = c.args in
    let s = scramble_lent a.lent in
    let why = c.in_err-scramble.field-0.0 in
    let back : c.from_residual.result ≡ Err why = search rules in
    let is = judged_here (goal.at.returns-in_err-scramble c).After-judge in
    let stop = stops (λ j. j.0) (tests a.lent a.level a.m a.a a.block a.columns.now a.rows.now) s c.judge.result is why c.in_err-scramble.was
    (accepted tt) in
    let both = refuses a.answers.now (tests_refuse a.plan s a.level a.m a.a a.block a.columns.now a.rows.now a.answers.now
    c.if-n-rows.false c.if-n-answers.false (sym stop)) in
    record { answer = ap of_judgement back ∙ both.0; answers = both.1 }

-- ---- past them
passed : (c : goal.After-shape_columns) → let a = c.args in
    ◌≡◌ {A = Outcome Unit} (first (tests a.lent a.level a.m a.a a.block a.columns.now a.rows.now) (accepted tt)) (accepted tt)
passed c =
    let a = c.args in
    let is = judged a.lent a.level a.m a.a a.block _ _ a.columns.now a.rows.now c.judge.ensures.scramble (search rules) (search rules) in
    passes (λ j. j.0) (tests a.lent a.level a.m a.a a.block a.columns.now a.rows.now) (scramble_lent a.lent) c.judge.result is
    (c.in_ok-scramble.scramble, c.in_ok-scramble.shape) c.in_ok-scramble.was (accepted tt)

first_cell : (c : goal.After-shape_columns) → Cell 32 c.args.m c.args.a c.args.block (get_or c.args.columns.now 0 0) (get_or c.args.rows.now 0 0)
first_cell c = cell_of (scramble_lent c.args.lent).flips c.args.level c.args.m c.args.a c.args.block _ _ (passed c)

shape : (c : goal.After-shape_columns) → Shape (generators c.args.plan) c.args.m c.args.a
shape c =
    let P = c.args.plan in record {
      valid = words_valid P.x P.y
          (λ t. let f : Fits w32 (get_or P.x t 0) = search rules in f.fits)
          (λ t. let f : Fits w32 (get_or P.y t 0) = search rules in f.fits);
      wide = (first_cell c).wide;
      fits = (first_cell c).size;
    }

columns : (c : goal.After-shape_columns) → ShapeColumns (generators c.args.plan) c.args.m c.args.a c.shape_columns.result
columns c = c.shape_columns.ensures.shape (shape c).wide (shape c).fits

pub returns-in_err-inverse : goal.returns-in_err-inverse
returns-in_err-inverse c =
    let a = c.args in
    let p = (goal.at.returns-in_err-inverse c).After-shape_columns in
    let why = c.in_err-inverse.field-0.0 in
    let back : c.from_residual-in_err-inverse.result ≡ Err why = search rules in
    let t = made_of c.invert.result c.map_err.result _ c.map_err.ensures.cases why c.in_err-inverse.was in
    let d = t.0 in
    let positive = d.positive in
    let is : why ≡ variant.NotNet a.m a.a d.kernel = search (rules, t) in
    let both = refuses a.answers.now (shape-refuses a.plan (scramble_lent a.lent) a.level a.m a.a a.block a.columns.now a.rows.now
    a.answers.now c.if-n-rows.false c.if-n-answers.false (passed p) (shape p) d.kernel
    (least-of_kernel (shape p) (columns p) ((rw t.1 at c.invert.ensures).within (shape p).fits).kernel_is (omega arith))) in
    record { answer = ap of_judgement (back ∙ ap (λ w. Err w) is) ∙ both.0; answers = both.1 }

-- ---- past 3: 6 of the later cells, or all answers

-- a fact of the shape that was judged is one of (m, a)
at_shape : {m a n b : ℕ} (F : ℕ → ℕ → Type 0) → n ≡ m → b ≡ a → F m a → F n b
at_shape {m} {a} {n} {b} F e f h = subst (λ x. F x b) (sym e) (subst (λ y. F m y) (sym f) h)

others-are : (c : goal.After-others_outside) → let a = c.args in
    c.others_outside.result ≡ (others_outside a.m a.a a.columns.now a.rows.now).holds
others-are c =
    let a = c.args in
    let e = c.in_ok-scramble.ensures.shape in
    c.others_outside.ensures ∙ ap₂ (λ (m n : ℕ). (others_outside m n a.columns.now a.rows.now).holds) e.0 e.1

left : (c : goal.After-shape_columns) (inverse : List ℕ) → Inverts c.shape_columns.result c.args.m 0 inverse → let a = c.args in
    let s = scramble_lent a.lent in
    overview_outcome a.plan s a.level a.m a.a a.block a.columns.now a.rows.now a.answers.now
    ≡ first (others_outside a.m a.a a.columns.now a.rows.now ∷ [])
    (accepted (visit_indexes (sequence a.plan s) a.m a.a a.block a.columns.now a.rows.now))
left c inverse inverts =
    let a = c.args in
    shape-passes a.plan (scramble_lent a.lent) a.level a.m a.a a.block a.columns.now a.rows.now a.answers.now
    c.if-n-rows.false c.if-n-answers.false (passed c) (determinant-nonzero (shape c) (columns c) inverts.kernel_is refl)

pub returns-then-others_outside : goal.returns-then-others_outside
returns-then-others_outside c =
    let at = goal.at.returns-then-others_outside c in
    let p = at.After-shape_columns in
    let found : c.invert.result ≡ Ok c.in_ok-inverse.inverse = search rules in
    let inverts = rw found at c.invert.ensures in
    let both = refuses c.args.answers.now
    (left p c.in_ok-inverse.inverse (inverts.within (shape p).fits)
    ∙ first-refuses _ 6 [] (sym (others-are at.After-others_outside) ∙ c.if-others_outside.true)) in
    record { answer = both.0; answers = both.1 }

-- every cell is judged before an answer is written
pub put_answers-requires : goal.put_answers-requires
put_answers-requires c =
    let a = c.args in
    let at = goal.at.put_answers-requires c in
    let p = at.After-shape_columns in
    let found : c.invert.result ≡ Ok c.in_ok-inverse.inverse = search rules in
    let inverts = rw found at c.invert.ensures in
    let f = first_cell p in
    let ok = c.in_ok-scramble in
    let e = ok.ensures.shape in
    let six = cell_passed (scramble_lent a.lent).flips a.level a.m a.a a.block _ _ (passed p) in
    let cell : Cell 32 a.m a.a a.block 0 0 =
    record { size = f.size; wide = f.wide; column = pow_pos a.a; row = pow_pos _; block = f.block } in
    let all : AllInside a.m a.a a.columns.now a.rows.now =
    inside a.m a.a a.columns.now a.rows.now c.if-n-rows.false six (sym (others-are at.After-others_outside) ∙ c.if-others_outside.false) in
    record {
      valid = (
        (shape p).valid,
        record {
          x = let f : Fits w32 ok.scramble.shift.x = search rules in f.fits;
          y = let f : Fits w32 ok.scramble.shift.y = search rules in f.fits;
        },
        at_shape (λ m n. Cell 32 m n a.block 0 0) e.0 e.1 cell,
        at_shape (λ m n. ShapeInverse (generators a.plan) m n c.in_ok-inverse.inverse) e.0 e.1
            (inverse-of-shape (shape p) (columns p) (inverts.within (shape p).fits)),
      );
      all_inside = (at_shape (λ m n. AllInside m n a.columns.now a.rows.now) e.0 e.1 all, c.if-n-answers.false);
    }

pub returns : goal.returns
returns c =
    let a = c.args in
    let at = goal.at.returns c in
    let p = at.After-shape_columns in
    let found : c.invert.result ≡ Ok c.in_ok-inverse.inverse = search rules in
    let inverts = rw found at c.invert.ensures in
    let ok = c.in_ok-scramble in
    let e = ok.ensures.shape in
    let visits : Scramble → (m n : ℕ) → List ℕ = λ s m n. visit_indexes (sequence a.plan s) m n a.block a.columns.now a.rows.now in
    let is = judged_here at.After-judge in
    let same = gives (λ j. j.0) (tests a.lent a.level a.m a.a a.block a.columns.now a.rows.now) (scramble_lent a.lent) c.judge.result is
    (ok.scramble, ok.shape) ok.was in
    let both = accepts a.answers.now
    (left p c.in_ok-inverse.inverse (inverts.within (shape p).fits)
    ∙ first_passes _ 6 [] (sym (others-are at.After-others_outside) ∙ c.if-others_outside.false) ∙ first-none _)
    (c.put_answers.ensures ∙ ap₂ (visits ok.scramble) e.0 e.1 ∙ ap (λ (s : Scramble). visits s a.m a.a) same) in
    record { answer = both.0; answers = both.1 }
