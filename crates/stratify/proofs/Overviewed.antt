-- What an overview comes to at each of its returns. Assumes nothing.
use mathlib.Core.Path.{◌≡◌, refl, sym, ap, ap₂, ◌∙◌}
use mathlib.Core.Logic.{◌≢◌, ◌↔◌, ◌⊎◌, inl, inr, ⊎_elim}
use mathlib.Core.Bool.{Bool, not, ◌||◌}
use mathlib.Core.List.{List, [], ◌∷◌}
use Prim.Native.Nat.{ℕ, zero, suc}
use native.Mathlib.Omega.{arith}
use borrow.Author.Tests.{eq-eqb, ne_eqb}
use lib.Dec.{eqb}
use lib.ListN.{length, get_or}
use Rattle.ranges.proofs.Order.{eq_or_ne}
use Rattle.linear.proofs.Prime.{two}
use Rattle.net.specs.Sequence.{Least}
use Rattle.net.specs.Scrambling.{plain}
use Rattle.net.specs.Shape.{Shape, determinant}
use Rattle.net.specs.Check.{least_index}
use Rattle.net.proofs.Least.{least-unique, least_index-least, crowded-of-least, zero-of-crowded}
use Rattle.refusal.specs.Outcome.{Outcome, accepted, refused, not_net, Test, first, part_left, then}
use Rattle.refusal.proofs.First.{first-none, first-refuses, first-other, refused_before, passed_before}
use Rattle.refusal.proofs.First.{accepted-refused, refused-same}
use Rattle.refusal.proofs.First.{then-accepted, then-refused, refused_leaves, accepted_hands}
use Rattle.plan.specs.declared.pair.Plan.{Plan}
use Rattle.plan.specs.declared.points.Scramble.{Scramble}
use Rattle.plan.specs.Pair.{generators, sequence}
use Rattle.stratify.specs.Answers.{query_tests}
use Rattle.stratify.specs.Overview.{shape_outcome, others_outside, visit_indexes, cells_outcome, overview_outcome, ordered_outcome}
use Rattle.stratify.proofs.Ordered.{overview-order}
use Rattle.stratify.proofs.OneByOne.{cells_are}

-- ---- 3 of the shape

module _ (P : Plan) (m a : ℕ) where
  abbrev j : ℕ
  j = least_index (plain (generators P)) m a

  abbrev by_determinant : ℕ → Outcome Unit
  by_determinant d = elim d [ zero ↦ not_net m a j | suc d ↦ accepted tt ]

  either : (d : ℕ) → ((d ≡ 0) × (by_determinant d ≡ not_net m a j)) ⊎ ((d ≢ 0) × (by_determinant d ≡ accepted tt))
  either zero = inl (refl, refl)
  either (suc d) = inr (λ e. omega (arith, e), refl)

  shape-decides : ((determinant (generators P) m a ≡ 0) × (shape_outcome P m a ≡ not_net m a j))
      ⊎ ((determinant (generators P) m a ≢ 0) × (shape_outcome P m a ≡ accepted tt))
  unfolding shape_outcome
  shape-decides = either (determinant (generators P) m a)

  shape-net : determinant (generators P) m a ≢ 0 → shape_outcome P m a ≡ accepted tt
  shape-net ne = ⊎_elim (λ (z, e). absurd (ne z)) (λ (n, e). e) shape-decides

  shape-no-net : Shape (generators P) m a → (i : ℕ) → Least (plain (generators P)) m a i → shape_outcome P m a ≡ not_net m a i
  shape-no-net shape i least =
      let z = zero-of-crowded shape two (crowded-of-least (plain (generators P)) m a i least) in
      let same = least-unique (plain (generators P)) m a j i (least_index-least shape two z) least in
      ⊎_elim (λ (z, e). e ∙ ap (λ (n : ℕ). not_net m a n) same) (λ (n, e). absurd (n z)) shape-decides

-- ---- the two promises of a return

module _ (old : List ℕ) {o : Outcome (List ℕ)} where
  pub refuses : {n : ℕ} {vs : List ℕ} → o ≡ refused n vs
      → (◌≡◌ {A = Outcome Unit} (refused n vs) (then o (accepted tt))) × (old ≡ part_left o (λ is. is) old)
  refuses e = (sym (then-refused (accepted tt) e), refused_leaves (λ is. is) old e)

  pub accepts : {is new : List ℕ} → o ≡ accepted is → new ≡ is
      → (◌≡◌ {A = Outcome Unit} (accepted tt) (then o (accepted tt))) × (new ≡ part_left o (λ is. is) old)
  accepts e f = (sym (then-accepted (accepted tt) e), f ∙ accepted_hands (λ is. is) old e)

-- ---- the tests

module _ (P : Plan) (s : Scramble) (level m a k : ℕ) (cs rs old : List ℕ) where
  abbrev outcome : Outcome (List ℕ)
  outcome = overview_outcome P s level m a k cs rs old

  rows-differ : length cs ≢ length rs → outcome ≡ refused 8 []
  rows-differ ne =
      first-refuses (cells_outcome P s level m a k cs rs) 8 []
      (ap (λ (b : Bool). not b || not (eqb (length cs) (length old))) (ne_eqb (length cs) (length rs) ne))

  answers-differ : length cs ≡ length rs → length cs ≢ length old → outcome ≡ refused 8 []
  answers-differ e ne =
      first-refuses (cells_outcome P s level m a k cs rs) 8 []
      (ap₂ (λ (b d : Bool). not b || not d) (eq-eqb (length cs) (length rs) e) (ne_eqb (length cs) (length old) ne))

  module _ (e : length cs ≡ length rs) (f : length cs ≡ length old) where
    abbrev tests : List Test
    tests = query_tests s.flips level m a k (get_or cs 0 0) (get_or rs 0 0)

    abbrev others : Outcome (List ℕ)
    others = first (others_outside m a cs rs ∷ []) (accepted (visit_indexes (sequence P s) m a k cs rs))

    ordered : outcome ≡ first tests (then (shape_outcome P m a) others)
    ordered = cells_are P s level m a k cs rs old e f ∙ overview-order P s level m a k cs rs e

    pub tests_refuse : {n : ℕ} {vs : List ℕ} → ◌≡◌ {A = Outcome Unit} (first tests (accepted tt)) (refused n vs) → outcome ≡ refused n vs
    tests_refuse h = ordered ∙ refused_before tt (then (shape_outcome P m a) others) tests h

    module _ (h : ◌≡◌ {A = Outcome Unit} (first tests (accepted tt)) (accepted tt)) where
      past : outcome ≡ then (shape_outcome P m a) others
      past = ordered ∙ passed_before tt (then (shape_outcome P m a) others) tests h

      pub shape-refuses : Shape (generators P) m a → (j : ℕ) → Least (plain (generators P)) m a j → outcome ≡ not_net m a j
      shape-refuses shape j least = past ∙ then-refused others (shape-no-net P m a shape j least)

      pub shape-passes : determinant (generators P) m a ≢ 0 → outcome ≡ others
      shape-passes odd = past ∙ then-accepted others (shape-net P m a odd)

-- ---- 8, exactly

-- none of the tests after 8 gives it
module _ (P : Plan) (s : Scramble) (level m a k : ℕ) (cs rs : List ℕ) where
  abbrev answers_of : Outcome (List ℕ)
  answers_of = accepted (visit_indexes (sequence P s) m a k cs rs)

  abbrev later : Outcome (List ℕ)
  later = first (others_outside m a cs rs ∷ []) answers_of

  after-shape : ((determinant (generators P) m a ≡ 0) × (shape_outcome P m a ≡ not_net m a (j P m a)))
      ⊎ ((determinant (generators P) m a ≢ 0) × (shape_outcome P m a ≡ accepted tt))
      → then (shape_outcome P m a) later ≡ refused 8 [] → ⊥
  after-shape (inl (z, e)) h = let n : ◌≡◌ {A = ℕ} 3 8 = refused-same (sym (then-refused later e) ∙ h) in omega arith
  after-shape (inr (n, e)) h =
      let last = first-other answers_of 6 [] (λ z. omega (arith, z)) _ (sym (then-accepted later e) ∙ h) in
      accepted-refused (sym (first-none answers_of) ∙ last.1)

  never_eight : ordered_outcome P s level m a k cs rs ≡ refused 8 [] → ⊥
  never_eight h =
      let at-2 = (first-other _ 2 _ (λ e. omega (arith, e)) _ h).1 in
      let at-17 = (first-other _ 17 _ (λ e. omega (arith, e)) _ at-2).1 in
      let at-18 = (first-other _ 18 _ (λ e. omega (arith, e)) _ at-17).1 in
      let at-4 = (first-other _ 4 _ (λ e. omega (arith, e)) _ at-18).1 in
      let at_5 = (first-other _ 5 _ (λ e. omega (arith, e)) _ at-4).1 in
      let at-6 = (first-other _ 6 _ (λ e. omega (arith, e)) _ at_5).1 in
      let at_7 = (first-other _ 7 [] (λ e. omega (arith, e)) _ at-6).1 in
      after-shape (shape-decides P m a) (sym (first-none _) ∙ at_7)

pub lengths_decide : (P : Plan) (s : Scramble) (level m a k : ℕ) (cs rs answers : List ℕ)
    → (overview_outcome P s level m a k cs rs answers ≡ refused 8 []) ↔ ((length cs ≡ length rs) × (length cs ≡ length answers) → ⊥)
lengths_decide P s level m a k cs rs answers = (
  λ h (e, f). never_eight P s level m a k cs rs
      (sym (cells_are P s level m a k cs rs answers e f ∙ overview-order P s level m a k cs rs e) ∙ h),
  λ differ. go differ (eq_or_ne (length cs) (length rs)) (eq_or_ne (length cs) (length answers)),
)
  where
    go : ((length cs ≡ length rs) × (length cs ≡ length answers) → ⊥) → (length cs ≡ length rs) ⊎ (length cs ≢ length rs)
        → (length cs ≡ length answers) ⊎ (length cs ≢ length answers) → overview_outcome P s level m a k cs rs answers ≡ refused 8 []
    go differ (inr ne) other = rows-differ P s level m a k cs rs answers ne
    go differ (inl e) (inr ne) = answers-differ P s level m a k cs rs answers e ne
    go differ (inl e) (inl f) = absurd (differ (e, f))
