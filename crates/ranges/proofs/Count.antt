-- How many numbers of a range pass a test: those of two parts, none, or just one. Assumes nothing.
use mathlib.Core.Path.{◌≡◌, refl, ap, ap₂, ◌∙◌}
use mathlib.Core.Logic.{◌⊎◌, inl, inr}
use mathlib.Core.Bool.{Bool, true, false}
use mathlib.Core.List.{List, [], ◌∷◌, ◌++◌, map}
use Prim.Native.Nat.{ℕ, zero, suc, ◌+◌, ◌≤◌, ◌<◌}
use native.Mathlib.Omega.{arith}
use Rattle.ranges.specs.Range.{range}
use Rattle.ranges.specs.Count.{indicator, count}
use Rattle.ranges.proofs.Order.{eq_or_ne}
use Rattle.ranges.proofs.Search.{clash}
use Rattle.ranges.proofs.Range.{range_add}

pub count_map : {A : Type 0} (test : A → Bool) (f : ℕ → A) (l : List ℕ) → count test (map f l) ≡ count (λ i. test (f i)) l
unfolding count
count_map test f [] = refl
count_map test f (i ∷ l) = rw (count_map test f l) refl

count-append : {A : Type 0} (test : A → Bool) (l r : List A) → count test (l ++ r) ≡ count test l + count test r
unfolding count
count-append test [] r = omega arith
count-append test (a ∷ l) r = omega (arith, count-append test l r)

module _ (test : ℕ → Bool) where
  -- a range in two parts
  pub count_add : (s p q : ℕ) → count test (range s (p + q)) ≡ count test (range s p) + count test (range (s + p) q)
  count_add s p q = ap (count test) (range_add s p q) ∙ count-append test (range s p) (range (s + p) q)

  -- none of the range, and just one
  pub count_none : (s n : ℕ) → ((i : ℕ) → s ≤ i → i < s + n → test i ≡ false) → count test (range s n) ≡ 0
  unfolding count range indicator
  count_none s zero h = refl
  count_none s (suc n) h =
      let rest = count_none (suc s) n (λ i l u. h i (omega arith) (omega arith)) in
      ap₂ (λ (t : Bool) (k : ℕ). indicator t + k) (h s (omega arith) (omega arith)) rest

  pub count-one : (s n i : ℕ) → s ≤ i → i < s + n → test i ≡ true → ((j : ℕ) → s ≤ j → j < s + n → test j ≡ true → j ≡ i)
      → count test (range s n) ≡ 1
  unfolding count range indicator
  count-one s zero i l u hit only = absurd (omega arith)
  count-one s (suc n) i l u hit only = go (eq_or_ne s i) (test s) refl (λ a b p q. count-one (suc s) n i a b p q)
    where
      other : (j : ℕ) (t : Bool) → test j ≡ t → s ≤ j → j < s + suc n → (j ≡ i → ⊥) → t ≡ false
      other j true e a b ne = absurd (ne (only j a b e))
      other j false e a b ne = refl

      Rest : Type 0
      Rest = suc s ≤ i → i < suc s + n → test i ≡ true → ((j : ℕ) → suc s ≤ j → j < suc s + n → test j ≡ true → j ≡ i)
          → count test (range (suc s) n) ≡ 1

      go : (s ≡ i) ⊎ (s ≡ i → ⊥) → (t : Bool) → test s ≡ t → Rest → indicator t + count test (range (suc s) n) ≡ 1
      go (inl e) true h rest =
          ap (λ (k : ℕ). 1 + k) (count_none (suc s) n (λ j a b. other j (test j) refl (omega arith) (omega arith) (omega arith)))
      go (inl e) false h rest = absurd (clash (ap test e ∙ hit) h)
      go (inr ne) true h rest = absurd (ne (only s (omega arith) (omega arith) h))
      go (inr ne) false h rest =
          ap (λ (k : ℕ). 0 + k) (rest (omega arith) (omega arith) hit (λ j a b. only j (omega arith) (omega arith)))
