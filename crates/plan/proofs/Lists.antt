-- Point calls, fills and walks give the visits of consecutive indexes. Assumes nothing.
use mathlib.Core.Path.{◌≡◌, refl, sym, ap, ap₂, ◌∙◌}
use mathlib.Core.Bool.{false}
use mathlib.Core.List.{List, [], ◌∷◌, map}
use Prim.Native.Nat.{ℕ, zero, suc, ◌+◌, ◌-◌, ◌≤◌, min}
use native.Mathlib.Omega.{arith}
use borrow.Author.Tests.{ltb-false, not-false, eqb-true}
use lib.Dec.{eqb, ltb}
use lib.ListN.{length, take, drop}
use Rattle.ranges.specs.Range.{range}
use Rattle.ranges.specs.Walk.{Walk, answers, visits_then_end, visits_given}
use Rattle.ranges.specs.Theorem.{Walked}
use Rattle.ranges.proofs.Range.{take-each, drop-each}
use Rattle.ranges.proofs.Walk as ranges
use Rattle.ranges.proofs.Walk.{visits_given_is, list-within}
use Rattle.net.specs.Sequence.{Sequence}
use Rattle.net.specs.Run.{Visit, visit, visits}
use Rattle.refusal.specs.Outcome.{accepted, first}
use Rattle.refusal.proofs.First.{first-none, first-accepted, all_pass}
use Rattle.word.specs.Index.{index_count, last_index}
use Rattle.flips.specs.declared.sets.Flips.{Flips}
use Rattle.plan.specs.Fill.{fill_outcome, filled}
use Rattle.plan.specs.Walk.{open_outcome}
use Rattle.plan.specs.Lists.{paired, held, visits_walked}
use Rattle.plan.proofs.Filling.{written}

-- ---- fills

paired_each : (S : Sequence) (start n : ℕ) → paired start (map S.x (range start n)) (map S.y (range start n)) ≡ visits S start n
unfolding paired range
paired_each S start zero = refl
paired_each S start (suc n) = ap (λ (l : List Visit). visit S start ∷ l) (paired_each S (suc start) n)

pub filled-visits : (n : ℕ) (f : Flips) (S : Sequence) (start : ℕ) (xs ys : List ℕ) → fill_outcome n f start xs ys ≡ accepted tt
    → held start (filled n f S start xs ys) ≡ visits S start (length xs)
filled-visits n f S start xs ys e =
    let passed = (all_pass (accepted tt) _ e).0.1.1.0 in
    let equal = eqb-true (length xs) (length ys) (not-false (eqb (length xs) (length ys)) passed) in
    ap (held start) (written n f start xs ys S (sym e))
    ∙ ap (λ (l : ℕ). paired start (map S.x (range start (length xs))) (map S.y (range start l))) (sym equal)
    ∙ paired_each S start (length xs)

-- of what a fill from index `first` on writes, leave out start - first visits and take `count`: these are the visits from `start` on
pub filled-part : (n : ℕ) (f : Flips) (S : Sequence) (start count first : ℕ) (xs ys : List ℕ) → fill_outcome n f first xs ys ≡ accepted tt
    → first ≤ start → start + count ≤ first + length xs
    → take count (drop (start - first) (held first (filled n f S first xs ys))) ≡ visits S start count
filled-part n f S start count first xs ys e from long =
    let at : first + (start - first) ≡ start = omega arith in
    let all : min count (length xs - (start - first)) ≡ count = omega arith in
    ap (λ (l : List Visit). take count (drop (start - first) l)) (filled-visits n f S first xs ys e)
    ∙ ap (take count) (drop-each (visit S) first (length xs) (start - first))
    ∙ take-each (visit S) (first + (start - first)) (length xs - (start - first)) count ∙ ap₂ (visits S) at all

-- ---- walks

module _ (n start count : ℕ) (w : Walk) (accepts : open_outcome n start count ≡ accepted w) where
  abbrev new : Walk
  new = record { next = start; left = count }

  passed : (ltb n (start + count) ≡ false) × (first [] (accepted new) ≡ accepted w)
  passed = first-accepted (accepted new) 9 [] (ltb n (start + count)) accepts

  pub opened : w ≡ record { next = start; left = count }
  opened = let e : accepted new ≡ accepted w = sym (first-none (accepted new)) ∙ passed.1 in cc

  pub within : start + count ≤ n
  within = ltb-false n (start + count) passed.0

module _ (start count : ℕ) (w : Walk) (accepts : open_outcome index_count start count ≡ accepted w) (n : ℕ) where
  pub steps : {A : Type 0} (visit-of : ℕ → A) → answers visit-of last_index n w ≡ visits_then_end visit-of n start count
  steps visit-of =
      ap (answers visit-of last_index n) (opened index_count start count w accepts)
      ∙ list-within visit-of last_index start count n (within index_count start count w accepts)

  module _ (S : Sequence) where
    pub walk-visits : visits_walked S n w ≡ visits S start (min n count)
    walk-visits = ap visits_given (steps (visit S)) ∙ visits_given_is (visit S) n start count

    pub last_walk : start ≤ last_index → Walked (visit S) last_index start count n
    last_walk from = ranges.walked (visit S) last_index start count n from (within index_count start count w accepts)
