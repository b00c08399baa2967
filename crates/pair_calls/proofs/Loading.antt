-- A call that judges a pair first: where the words are refused so is the call, and else it comes to what is made of the matrices. Assumes nothing.
use Rattle.std.specs.Prelude.{Result, Ok, Err}
use mathlib.Core.Path.{◌≡◌, sym, ap, ◌∙◌}
use mathlib.Core.List.{List, [], ◌∷◌}
use Prim.Native.Nat.{ℕ}
use Rattle.refusal.specs.Outcome.{Outcome, accepted, first, then}
use Rattle.refusal.specs.Refusal.{of_refusal, of_judgement}
use Rattle.refusal.specs.declared.Refusal.{Refusal}
use Rattle.refusal.proofs.First.{then-first, then-accepted}
use Rattle.refusal.proofs.Results.{stops, passes}
use Rattle.plan.specs.declared.pair.Plan.{Plan}
use Rattle.plan.specs.Pair.{not_a_pair, load_outcome, loaded}

module _ (words : List ℕ) (r : Result Unit Refusal) (is : of_judgement r ≡ load_outcome words) {A : Type 0} where
  after_test : (after : Outcome A) → then (load_outcome words) after ≡ first (not_a_pair words ∷ []) after
  after_test after =
      then-first (not_a_pair words ∷ []) (accepted tt) after
      ∙ ap (first (not_a_pair words ∷ [])) (then-accepted after (λ i. accepted tt))

  pub pair_stops : (why : Refusal) → r ≡ Err why → (after : Outcome A) → of_refusal why ≡ then (load_outcome words) after
  pair_stops why was after = stops (λ u. u) (not_a_pair words ∷ []) tt r is why was after ∙ sym (after_test after)

  pub pair_gives : r ≡ Ok tt → {P : Plan} → P ≡ loaded words → (make : Plan → Outcome A) → make P ≡ then (load_outcome words) (make (loaded words))
  pair_gives was e make =
      ap make e ∙ sym (after_test (make (loaded words)) ∙ passes (λ u. u) (not_a_pair words ∷ []) tt r is tt was (make (loaded words)))

-- the judgement by itself
module _ (words : List ℕ) (r : Result Unit Refusal) (is : of_judgement r ≡ load_outcome words) where
  pub load_stops : (why : Refusal) → r ≡ Err why → load_outcome words ≡ of_refusal why
  load_stops why was = sym (stops (λ u. u) (not_a_pair words ∷ []) tt r is why was (accepted tt))

  pub load_passes : r ≡ Ok tt → load_outcome words ≡ accepted tt
  load_passes was = passes (λ u. u) (not_a_pair words ∷ []) tt r is tt was (accepted tt)
