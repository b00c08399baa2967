-- An overview's tests may be made in the order 2, 17, 18, 4, 5, 6 of the first cell, 7, 3, 6 of the other cells. Assumes nothing.
use mathlib.Core.Path.{◌≡◌, refl, sym, ap, ap₂, ◌∙◌}
use mathlib.Core.Bool.{Bool, true, false, ◌||◌}
use mathlib.Core.List.{List, [], ◌∷◌}
use Prim.Native.Nat.{ℕ, zero, suc, ◌-◌}
use native.Mathlib.Omega.{arith}
use lib.ListN.{length}
use lib.Pow.{pow_pos}
use Rattle.net.specs.Scrambling.{plain}
use Rattle.net.specs.Shape.{determinant}
use Rattle.net.specs.Check.{least_index}
use Rattle.net.specs.Query.{visit_index, found, bad_shape, locate}
use Rattle.refusal.specs.Outcome.{Outcome, accepted, refused, not_net, Test, first, then}
use Rattle.refusal.proofs.First.{first-none, first_passes, first-append, first_ext, then-first, AllPass}
use Rattle.word.specs.Index.{index_bits}
use Rattle.flips.specs.Load.{not_flips, unused_set}
use Rattle.plan.specs.declared.pair.Plan.{Plan}
use Rattle.plan.specs.declared.points.Scramble.{Scramble}
use Rattle.plan.specs.Pair.{generators, scrambling, sequence, unknown_level}
use Rattle.stratify.specs.Answers.{above_level, not_a_shape, not_a_cell, not_a_block, query_tests, of_location, query_outcome}
use Rattle.stratify.specs.Overview.{and_others, one_by_one, shape_outcome, tests_without_cell, cells_outcome, some_outside}
use Rattle.stratify.specs.Overview.{others_outside, visit_indexes, ordered_outcome}
use Rattle.stratify.proofs.Tests.{cell_within}

-- a query that begins with tests, and then others
others-first : (ts : List Test) (o : Outcome ℕ) (others : Outcome (List ℕ)) → and_others (first ts o) others ≡ first ts (and_others o others)
unfolding first and_others
others-first [] o others = refl
others-first (t ∷ ts) o others = go t.holds (others-first ts o others)
  where
    go : (b : Bool) → and_others (first ts o) others ≡ first ts (and_others o others)
        → and_others (elim b [ true ↦ refused t.number [] | false ↦ first ts o ]) others
        ≡ elim b [ true ↦ refused t.number [] | false ↦ first ts (and_others o others) ]
    go true more = refl
    go false more = more

module _ (P : Plan) (s : Scramble) (level m a k : ℕ) where
  abbrev one : ℕ → ℕ → Outcome ℕ
  one = query_outcome P s level m a k

  abbrev located : ℕ → ℕ → Outcome ℕ
  located c r = of_location m a (locate (generators P) (scrambling s) m a k c r)

  abbrev index : ℕ → ℕ → ℕ
  index = visit_index (sequence P s) m a k

  -- 2, 17, 18, 4, 5 and 7 pass: 6 is left
  six_left : AllPass (tests_without_cell s.flips level m a k) → (c r : ℕ) → one c r ≡ first (not_a_cell 2 m a c r ∷ []) (located c r)
  six_left all c r =
      first_passes (located c r) 2 _ all.0 ∙ first_passes (located c r) 17 _ all.1.0 ∙ first_passes (located c r) 18 _ all.1.1.0
      ∙ first_passes (located c r) 4 _ all.1.1.1.0 ∙ first_passes (located c r) 5 _ all.1.1.1.1.0
      ∙ first-append (not_a_cell 2 m a c r ∷ []) _ (located c r)
      ∙ first_ext (not_a_cell 2 m a c r ∷ []) (λ six. first_passes (located c r) 7 [] all.1.1.1.1.1.0 ∙ first-none (located c r))

  -- where the determinant is not 0, each cell has an index or is refused under 6
  others : {d : ℕ} → determinant (generators P) m a ≡ suc d → AllPass (tests_without_cell s.flips level m a k) → (cs rs : List ℕ)
      → one_by_one one cs rs
      ≡ first (record { number = 6; holds = some_outside m a cs rs } ∷ []) (accepted (visit_indexes (sequence P s) m a k cs rs))
  unfolding one_by_one some_outside visit_indexes first and_others locate
  others odd all [] rs = refl
  others odd all (c ∷ cs) [] = refl
  others odd all (c ∷ cs) (r ∷ rs) =
      ap₂ and_others (six_left all c r ∙ ap (λ (o : Outcome ℕ). first (not_a_cell 2 m a c r ∷ []) o) (rw (odd, locate) refl)) (others odd all cs rs)
      ∙ go (not_a_cell 2 m a c r).holds (some_outside m a cs rs)
    where
      go : (b d : Bool) → and_others (first (record { number = 6; holds = b } ∷ []) (accepted (index c r)))
          (first (record { number = 6; holds = d } ∷ []) (accepted (visit_indexes (sequence P s) m a k cs rs)))
          ≡ first (record { number = 6; holds = b || d } ∷ []) (accepted (index c r ∷ visit_indexes (sequence P s) m a k cs rs))
      go true d = refl
      go false true = refl
      go false false = refl

  -- 3, or all answers
  by_shape : (c r : ℕ) (cs rs : List ℕ) → AllPass (tests_without_cell s.flips level m a k)
      → and_others (located c r) (one_by_one one cs rs)
      ≡ then (shape_outcome P m a) (first (others_outside m a (c ∷ cs) (r ∷ rs) ∷ [])
      (accepted (visit_indexes (sequence P s) m a k (c ∷ cs) (r ∷ rs))))
  unfolding shape_outcome then locate visit_indexes and_others first
  by_shape c r cs rs all = go (determinant (generators P) m a) refl
    where
      j : ℕ
      j = least_index (plain (generators P)) m a

      put : (b : Bool) → and_others (accepted (index c r)) (first (record { number = 6; holds = b } ∷ []) (accepted (visit_indexes
          (sequence P s) m a k cs rs)))
          ≡ first (record { number = 6; holds = b } ∷ []) (accepted (index c r ∷ visit_indexes (sequence P s) m a k cs rs))
      put true = refl
      put false = refl

      go : (d : ℕ) → determinant (generators P) m a ≡ d
          → and_others (of_location m a (elim d [ zero ↦ bad_shape j | suc d ↦ found (index c r) ])) (one_by_one one cs rs)
          ≡ then {A = Unit} (elim d [ zero ↦ not_net m a j | suc d ↦ accepted tt ]) (first (others_outside m a (c ∷ cs) (r ∷ rs) ∷ [])
          (accepted (visit_indexes (sequence P s) m a k (c ∷ cs) (r ∷ rs))))
      go zero e = refl
      go (suc d) e = ap (and_others (accepted (index c r))) (others e all cs rs) ∙ put (some_outside m a cs rs)

  -- column 0 and row 0 are a cell of every shape: 6 does not hold
  with_cell : {A : Type 0} (after : Outcome A) → first (query_tests s.flips level m a k 0 0) after
      ≡ first (tests_without_cell s.flips level m a k) after
  with_cell after =
      let before-six = unknown_level level ∷ not_flips s.flips ∷ unused_set s.flips ∷ above_level level m ∷ not_a_shape m a ∷ [] in
      let seven = not_a_block 2 index_bits m k ∷ [] in
      first-append before-six (not_a_cell 2 m a 0 0 ∷ seven) after
      ∙ ap (first before-six) (first_passes after 6 seven (cell_within m a 0 0 (pow_pos a) (pow_pos (m - a))))
      ∙ sym (first-append before-six seven after)

  -- the theorem
  pub overview-order : (cs rs : List ℕ) → length cs ≡ length rs → cells_outcome P s level m a k cs rs ≡ ordered_outcome P s level m a k cs rs
  unfolding one_by_one some_outside visit_indexes first
  overview-order [] [] e = sym (with_cell (then (shape_outcome P m a) (accepted [])))
  overview-order [] (r ∷ rs) e = absurd (omega arith)
  overview-order (c ∷ cs) [] e = absurd (omega arith)
  overview-order (c ∷ cs) (r ∷ rs) e =
      others-first (query_tests s.flips level m a k c r) (located c r) (one_by_one one cs rs)
      ∙ first_ext (query_tests s.flips level m a k c r) (λ all. by_shape c r cs rs
      (all.0, (all.1.0, (all.1.1.0, (all.1.1.1.0, (all.1.1.1.1.0, (all.1.1.1.1.1.1.0, tt)))))))

  -- the empty list is judged as column 0 and row 0 would be, which every shape has
  three : ◌≡◌ {A = Outcome (List ℕ)} (then (located 0 0) (accepted [])) (then (shape_outcome P m a) (accepted []))
  unfolding shape_outcome then locate
  three = go (determinant (generators P) m a)
    where
      j : ℕ
      j = least_index (plain (generators P)) m a

      go : (d : ℕ) → ◌≡◌ {A = Outcome (List ℕ)} (then (of_location m a (elim d [ zero ↦ bad_shape j | suc d ↦ found (index 0 0) ])) (accepted []))
          (then {A = Unit} (elim d [ zero ↦ not_net m a j | suc d ↦ accepted tt ]) (accepted []))
      go zero = refl
      go (suc d) = refl

  pub empty-query : ◌≡◌ {A = Outcome (List ℕ)} (first (tests_without_cell s.flips level m a k) (then (shape_outcome P m a) (accepted [])))
      (then (one 0 0) (accepted []))
  empty-query =
      let after = then {B = List ℕ} (located 0 0) (accepted []) in
      sym (then-first (query_tests s.flips level m a k 0 0) (located 0 0) (accepted []) ∙ with_cell after
      ∙ ap (first (tests_without_cell s.flips level m a k)) three)
