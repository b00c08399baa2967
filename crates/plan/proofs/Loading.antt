-- What loading answers and leaves. Assumes nothing.
use Rattle.std.specs.Prelude.{Result, Ok, Err}
use mathlib.Core.Path.{◌≡◌, sym, ap, ◌∙◌}
use mathlib.Core.Bool.{not}
use mathlib.Core.Logic.{◌≢◌}
use mathlib.Core.List.{List, []}
use Prim.Native.Nat.{ℕ}
use borrow.Author.Tests.{eq-eqb, ne_eqb}
use lib.ListN.{length, take, drop, replicate}
use Rattle.refusal.specs.Outcome.{Outcome, accepted, refused, first}
use Rattle.refusal.specs.Refusal.{of_refusal, of_judgement}
use Rattle.refusal.specs.declared.Refusal.{Refusal}
use Rattle.refusal.proofs.Results.{stops, passes}
use Rattle.refusal.proofs.First.{first-none, first-refuses, first_passes, granted-accepted, granted-refused}
use Rattle.flips.specs.declared.sets.Flips.{Flips}
use Rattle.flips.specs.Load.{flips_tests, flips_outcome}
use Rattle.plan.specs.declared.pair.Plan.{Plan}
use Rattle.plan.specs.declared.points.Scramble.{Scramble}
use Rattle.plan.specs.Pair.{load_outcome, loaded, plan_load_outcome, scramble_loaded}

module _ (words : List ℕ) where
  pub loading_refuses : length words ≢ 64 → load_outcome words ≡ refused 1 []
  loading_refuses ne = first-refuses (accepted tt) 1 [] (ap not (ne_eqb (length words) 64 ne))

  pub loading_accepts : length words ≡ 64 → load_outcome words ≡ accepted tt
  loading_accepts e = first_passes (accepted tt) 1 [] (ap not (eq-eqb (length words) 64 e)) ∙ first-none (accepted tt)

  pub loaded-refused : length words ≢ 64 → loaded words ≡ record { x = replicate 32 0; y = replicate 32 0 }
  loaded-refused ne = granted-refused _ _ (loading_refuses ne)

  pub loaded-accepted : length words ≡ 64 → loaded words ≡ record { x = take 32 words; y = drop 32 words }
  loaded-accepted e = granted-accepted _ _ (loading_accepts e)

  -- the two returns of a call that loads
  pub load_refuses : length words ≢ 64 → plan_load_outcome words ≡ refused 1 []
  load_refuses ne = first-refuses (accepted (loaded words)) 1 [] (ap not (ne_eqb (length words) 64 ne))

  pub load_gives : length words ≡ 64 → {P : Plan} → P ≡ record { x = take 32 words; y = drop 32 words } → accepted P ≡ plan_load_outcome words
  load_gives e made =
      ap accepted (made ∙ sym (loaded-accepted e))
      ∙ sym (first_passes (accepted (loaded words)) 1 [] (ap not (eq-eqb (length words) 64 e)) ∙ first-none (accepted (loaded words)))

-- a scramble by what judging its flips has come to: refused as they are, and else loaded as it is lent
pub scramble_held : (s : Scramble) → flips_outcome s.flips ≡ accepted tt → scramble_loaded s ≡ s
scramble_held s e = ap (λ (f : Flips). record { shift = s.shift; flips = f }) (granted-accepted _ _ e)

module _ (s : Scramble) (r : Result Unit Refusal) (is : of_judgement r ≡ flips_outcome s.flips) where
  pub lent_stops : {A : Type 0} (why : Refusal) → r ≡ Err why → (after : Outcome A) → of_refusal why ≡ first (flips_tests s.flips) after
  lent_stops why was after = stops (λ u. u) (flips_tests s.flips) tt r is why was after

  module _ (was : r ≡ Ok tt) where
    pub lent_passes : {A : Type 0} (after : Outcome A) → first (flips_tests s.flips) after ≡ after
    lent_passes after = passes (λ u. u) (flips_tests s.flips) tt r is tt was after

    pub lent_holds : scramble_loaded s ≡ s
    lent_holds = scramble_held s (lent_passes (accepted tt))
