-- A call that makes tests first and then gives one value, by what the code's result of it is: an error is the refusal of whatever comes after
-- the same tests, and a value means that these tests are passed. A `?` of such a call needs no more. Assumes nothing.
use Rattle.std.specs.Prelude.{Result, Ok, Err}
use mathlib.Core.Path.{◌≡◌, sym, ap, ◌∙◌}
use mathlib.Core.List.{List}
use Rattle.refusal.specs.Outcome.{Outcome, accepted, Test, first}
use Rattle.refusal.specs.Refusal.{of_refusal, of_result}
use Rattle.refusal.specs.declared.Refusal.{Refusal}
use Rattle.refusal.proofs.First.{refused_before, passed_before, all_pass, accepted-same}

module _ {A B : Type 0} (f : A → B) (ts : List Test) (b : B) (r : Result A Refusal) (is : of_result f r ≡ first ts (accepted b)) where
  pub stops : {C : Type 0} (e : Refusal) → r ≡ Err e → (after : Outcome C) → of_refusal e ≡ first ts after
  stops e was after = sym (refused_before b after ts (sym is ∙ ap (of_result f) was))

  module _ (a : A) (was : r ≡ Ok a) where
    pub passes : {C : Type 0} (after : Outcome C) → first ts after ≡ after
    passes after = passed_before b after ts (sym is ∙ ap (of_result f) was)

    pub gives : f a ≡ b
    gives = sym (accepted-same (all_pass (accepted b) ts (sym is ∙ ap (of_result f) was)).1)

-- all three, for calls of such a call
pub ruleset tested = (stops, passes, gives)
