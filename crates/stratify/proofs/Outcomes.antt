-- Past their tests the check is net's check and the query net's query; what their outcomes tell of those. Assumes nothing.
use mathlib.Core.Path.{◌≡◌, refl, sym, ap, ◌∙◌}
use mathlib.Core.Logic.{◌≢◌, ◌↔◌}
use mathlib.Core.Bool.{false, not}
use mathlib.Core.List.{List, []}
use Prim.Native.Nat.{ℕ, ◌-◌, ◌^◌, ◌≤◌}
use native.Mathlib.Omega.{arith}
use borrow.Author.Tests.{eq-eqb, le-ltb, lt-leb, leb-false, ltb-false}
use lib.Dec.{leb}
use lib.ListN.{length}
use Rattle.ranges.proofs.Tests.{neither_holds}
use Rattle.net.specs.Check.{Verdict, passed, first_bad, check}
use Rattle.net.specs.Query.{Location, found, bad_shape, locate}
use Rattle.refusal.specs.Outcome.{Outcome, accepted, not_net, first}
use Rattle.refusal.proofs.First.{first-none, first_passes, accepted-refused, all_pass, AllPass}
use Rattle.flips.specs.declared.sets.Flips.{Flips}
use Rattle.flips.specs.Load.{flips_outcome}
use Rattle.plan.specs.declared.pair.Plan.{Plan}
use Rattle.plan.specs.declared.points.Scramble.{Scramble}
use Rattle.plan.specs.Pair.{generators, scrambling, loaded, Level}
use Rattle.plan.proofs.Level.{level_known, level_of}
use Rattle.stratify.specs.Answers.{of_verdict, check_outcome, of_location, not_a_cell, query_tests, query_outcome, Cell}
use Rattle.stratify.proofs.Tests.{cell_within, past_flips}

-- ---- past the tests

pub query_outcome_is : (P : Plan) (s : Scramble) (level m a k c r : ℕ) → Level level → flips_outcome s.flips ≡ accepted tt
    → Cell level m a k c r → query_outcome P s level m a k c r ≡ of_location m a (locate (generators P) (scrambling s) m a k c r)
query_outcome_is P s level m a k c r known fine cell =
    let after = of_location m a (locate (generators P) (scrambling s) m a k c r) in
    first_passes after 2 _ (level_known level known)
    ∙ past_flips s.flips after _ fine
    ∙ first_passes after 4 _ (le-ltb level m cell.size)
    ∙ first_passes after 5 _ (le-ltb m a cell.wide)
    ∙ first_passes after 6 _ (cell_within m a c r cell.column cell.row)
    ∙ first_passes after 7 [] (lt-leb (2 ^ (32 - m)) k cell.block)
    ∙ first-none after

-- the cell that a query's tests let through
module _ (f : Flips) (level m a k c r : ℕ) (e : ◌≡◌ {A = Outcome Unit} (first (query_tests f level m a k c r) (accepted tt)) (accepted tt)) where
  all : AllPass (query_tests f level m a k c r)
  all = (all_pass (accepted tt) (query_tests f level m a k c r) e).0

  pub cell_passed : (not_a_cell 2 m a c r).holds ≡ false
  cell_passed = all.1.1.1.1.1.0

  pub cell_of : Cell 32 m a k c r
  cell_of =
      let known = (level_of level all.0).not_above in
      let size : m ≤ level = ltb-false level m all.1.1.1.0 in
      let inside = neither_holds (leb (2 ^ a) c) (leb (2 ^ (m - a)) r) cell_passed in
      record {
        size = omega arith;
        wide = ltb-false m a all.1.1.1.1.0;
        column = leb-false (2 ^ a) c inside.0;
        row = leb-false (2 ^ (m - a)) r inside.1;
        block = leb-false (2 ^ (32 - m)) k all.1.1.1.1.1.1.0;
      }

pub check_outcome_is : (words : List ℕ) (level : ℕ) → length words ≡ 64 → Level level
    → check_outcome words level ≡ of_verdict (check (generators (loaded words)) level)
check_outcome_is words level long known =
    let after = of_verdict (check (generators (loaded words)) level) in
    first_passes after 1 _ (ap not (eq-eqb (length words) 64 long))
    ∙ first_passes after 2 [] (level_known level known)
    ∙ first-none after

-- ---- an outcome tells the verdict and the location

accepted-passed : (v : Verdict) → of_verdict v ≡ accepted tt → v ≡ passed
accepted-passed passed e = refl
accepted-passed (first_bad m a j) e = absurd (accepted-refused (sym e))

not_net-first_bad : (v : Verdict) (m a j : ℕ) → of_verdict v ≡ not_net m a j → v ≡ first_bad m a j
not_net-first_bad passed m a j e = absurd (accepted-refused e)
not_net-first_bad (first_bad n d i) m a j e = cc

accepted-found : (m a : ℕ) (l : Location) (i : ℕ) → of_location m a l ≡ accepted i → l ≡ found i
accepted-found m a (found n) i e = cc
accepted-found m a (bad_shape j) i e = absurd (accepted-refused (sym e))

not_net-bad_shape : (m a : ℕ) (l : Location) (j : ℕ) → of_location m a l ≡ not_net m a j → l ≡ bad_shape j
not_net-bad_shape m a (found n) j e = absurd (accepted-refused e)
not_net-bad_shape m a (bad_shape i) j e = cc

module _ {o : Outcome Unit} {v : Verdict} (is : o ≡ of_verdict v) where
  pub verdict-accepted : (o ≡ accepted tt) ↔ (v ≡ passed)
  verdict-accepted = (λ e. accepted-passed v (sym is ∙ e), λ e. is ∙ ap of_verdict e)

  pub verdict-not_net : (m a j : ℕ) → (o ≡ not_net m a j) ↔ (v ≡ first_bad m a j)
  verdict-not_net m a j = (λ e. not_net-first_bad v m a j (sym is ∙ e), λ e. is ∙ ap of_verdict e)

  -- 3 with some shape and j, where the verdict is not passed
  pub verdict-refuses : ((m : ℕ) × (a : ℕ) × (j : ℕ) × (o ≡ not_net m a j)) ↔ (v ≢ passed)
  verdict-refuses = (λ (m, a, j, e) p. absurd (accepted-refused (sym (is ∙ ap of_verdict p) ∙ e)), λ ne. named v refl ne)
    where
      named : (u : Verdict) → v ≡ u → v ≢ passed → (m : ℕ) × (a : ℕ) × (j : ℕ) × (o ≡ not_net m a j)
      named passed e ne = absurd (ne e)
      named (first_bad m a j) e ne = (m, a, j, is ∙ ap of_verdict e)

module _ {o : Outcome ℕ} (m a : ℕ) {l : Location} (is : o ≡ of_location m a l) where
  pub location_accepted : (i : ℕ) → (o ≡ accepted i) ↔ (l ≡ found i)
  location_accepted i = (λ e. accepted-found m a l i (sym is ∙ e), λ e. is ∙ ap (of_location m a) e)

  pub location_not_net : (j : ℕ) → (o ≡ not_net m a j) ↔ (l ≡ bad_shape j)
  location_not_net j = (λ e. not_net-bad_shape m a l j (sym is ∙ e), λ e. is ∙ ap (of_location m a) e)
