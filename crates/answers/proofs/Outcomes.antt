-- What is known of the number and of the values once an outcome is known to be refused, or to be accepted.
-- Assumes nothing.
use mathlib.Core.Path.{◌≡◌, refl, sym, ap}
use mathlib.Core.List.{List}
use Prim.Native.Nat.{ℕ}
use lib.ListN.{get_or}
use Rattle.refusal.specs.Outcome.{Outcome, accepted, refused, then}
use Rattle.answers.specs.Answers.{answer_number, value_left}

module _ {A : Type 0} {o : Outcome A} {n : ℕ} {vs : List ℕ} (e : o ≡ refused n vs) where
  pub refused-answer : n ≡ answer_number o
  refused-answer = sym (ap answer_number e)

  pub refused_gives : (k old : ℕ) → get_or vs k old ≡ value_left o k old
  refused_gives k old = sym (ap (λ (p : Outcome A). value_left p k old) e)

module _ {A : Type 0} {o : Outcome A} {a : A} (e : o ≡ accepted a) where
  pub accepted-answer : 0 ≡ answer_number o
  accepted-answer = sym (ap answer_number e)

  pub accepted_leaves : (k old : ℕ) → old ≡ value_left o k old
  accepted_leaves k old = sym (ap (λ (p : Outcome A). value_left p k old) e)

-- a call that hands out nothing, told by the same call that hands out something
module _ {A B : Type 0} (o : Outcome A) (b : B) where
  pub number_then : answer_number (then o (accepted b)) ≡ answer_number o
  unfolding then
  number_then = go o
    where
      go : (p : Outcome A) → answer_number (then p (accepted b)) ≡ answer_number p
      go (accepted a) = refl
      go (refused n vs) = refl

  pub value_then : (k old : ℕ) → value_left (then o (accepted b)) k old ≡ value_left o k old
  unfolding then
  value_then k old = go o
    where
      go : (p : Outcome A) → value_left (then p (accepted b)) k old ≡ value_left p k old
      go (accepted a) = refl
      go (refused n vs) = refl
