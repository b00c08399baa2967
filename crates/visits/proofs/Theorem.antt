-- What users rely on: one term of `Theorems`. Each step takes the first of the visits to come, so n steps take the first n.
-- Assumes nothing.
use Rattle.std.specs.Prelude.{Option, Some, None}
use mathlib.Core.Path.{◌≡◌, refl, sym, ap, ◌∙◌}
use mathlib.Core.List.{List, ◌∷◌}
use Prim.Native.Nat.{ℕ, suc}
use native.Mathlib.Omega.{arith}
use lib.ListN.{length}
use Rattle.digits.proofs.Two.{one_lt_two}
use Rattle.net.specs.Sequence.{Sequence, point}
use Rattle.net.proofs.Columns.{standard-valid}
use Rattle.refusal.proofs.First.{then_same}
use Rattle.plan.proofs.Theorem as plan
use Rattle.region_file.specs.Judge.{no_further_tests, judge_outcome}
use Rattle.visits.specs.declared.file_walks.FileVisit.{FileVisit}
use Rattle.visits.specs.declared.file_walks.FileWalk.{FileWalk}
use Rattle.visits.specs.Visits.{file_visits}
use Rattle.visits.specs.FileWalk.{visits_to_come, Gives}
use Rattle.visits.specs.Theorem.{Steps, no_step, first_step, file_answers, Theorems}
use Rattle.visits.proofs.FileVisits.{visit_iff, once}
use Rattle.visits.proofs.Inside.{fields_inside}
use Rattle.visits.proofs.Base.{as_before}

-- the first answer and the others
first_then : (file : List ℕ) (p q : FileWalk) (s : Option FileVisit) (ss : List (Option FileVisit)) → Gives file p s q
    → ss ≡ file_answers (length ss) (visits_to_come file q)
    → s ∷ ss ≡ file_answers (suc (length ss)) (visits_to_come file p)
unfolding file_answers
first_then file p q (Some v) ss g e = ap (λ (l : List (Option FileVisit)). Some v ∷ l) e ∙ sym (ap (file_answers (suc (length ss))) g)
first_then file p q None ss g e =
    ap (λ (l : List (Option FileVisit)). None ∷ l) (e ∙ ap (file_answers (length ss)) g.1) ∙ sym (ap (file_answers (suc (length ss))) g.0)

steps : (file : List ℕ) (p q : FileWalk) (ss : List (Option FileVisit)) → Steps file p ss q → ss ≡ file_answers (length ss) (visits_to_come file p)
unfolding file_answers
steps file p q ss (no_step _) = refl
steps file p q ss (first_step _ r _ s others g run) = first_then file p r s others g (steps file r q others run)

pub theorems : Theorems
theorems = record {
  steps = steps;
  listed = λ file p q ss e run.
      steps file p q ss run ∙ ap (file_answers (length ss)) (then_same (judge_outcome no_further_tests file) (file_visits file) (sym e));
  visit_iff = visit_iff;
  once = once;
  fields_inside = fields_inside;
  without_flips = λ r i. ap (λ (S : Sequence). point S i) ((plan.theorems).unflipped (standard-valid one_lt_two 32 32) r.shift);
  as_before = as_before;
  every_link_counts = λ links few. omega arith;
}
