-- A function from the numbers below N to themselves that takes no value twice takes each. Assumes nothing.
use mathlib.Core.Path.{◌≡◌, sym, ap, ◌∙◌}
use mathlib.Core.Logic.{◌⊎◌, inl, inr, ◌≢◌}
use Prim.Native.Nat.{ℕ, zero, suc, ◌<◌}
use native.Mathlib.Omega.{arith}
use native.Mathlib.Decide.{ℕ_discrete}
use Rattle.ranges.specs.Skip.{skip}
use Rattle.ranges.proofs.Order.{find}
use Rattle.ranges.proofs.Skip.{unskip, skip-unskip, unskip_lt}

hits : (N : ℕ) (f : ℕ → ℕ) (y : ℕ) → ((i : ℕ) × (i < N) × (f i ≡ y)) ⊎ ((i : ℕ) → i < N → f i ≢ y)
hits N f y = go (find N (λ i. f i ≢ y) (λ i. other (ℕ_discrete (f i) y)))
  where
    other : {i : ℕ} → Dec (i ≡ y) → Dec (i ≢ y)
    other (yes h) = no (λ n. n h)
    other (no h) = yes h

    sure : (i : ℕ) → ¬ (i ≢ y) → Dec (i ≡ y) → i ≡ y
    sure i n (yes h) = h
    sure i n (no h) = absurd (n h)

    go : ((i : ℕ) × (i < N) × (¬ (f i ≢ y))) ⊎ ((i : ℕ) → i < N → f i ≢ y) → ((i : ℕ) × (i < N) × (f i ≡ y)) ⊎ ((i : ℕ) → i < N → f i ≢ y)
    go (inl (i, l, n)) = inl (i, l, sure (f i) n (ℕ_discrete (f i) y))
    go (inr m) = inr m

pub onto : (N : ℕ) (f : ℕ → ℕ) → ((i : ℕ) → i < N → f i < N) → ((i j : ℕ) → i < N → j < N → f i ≡ f j → i ≡ j)
    → (y : ℕ) → y < N → (i : ℕ) × (i < N) × (f i ≡ y)
onto zero f into inj y h = absurd (omega arith)
onto (suc N) f into inj y h = go (hits (suc N) f y) (λ g a b z l. onto N g a b z l)
  where
    go : ((i : ℕ) × (i < suc N) × (f i ≡ y)) ⊎ ((i : ℕ) → i < suc N → f i ≢ y)
        → ((g : ℕ → ℕ) → ((i : ℕ) → i < N → g i < N) → ((i j : ℕ) → i < N → j < N → g i ≡ g j → i ≡ j) → (z : ℕ) → z < N
        → (i : ℕ) × (i < N) × (g i ≡ z))
        → (i : ℕ) × (i < suc N) × (f i ≡ y)
    go (inl r) ih = r
    go (inr miss) ih =
        let (i, l, e) = ih (λ i. unskip y (f i)) (λ i l. less i (omega arith))
        (λ i j li lj. back i j (omega arith) (omega arith)) (unskip y (f N)) (less N (omega arith)) in
        let clash = back i N (omega arith) (omega arith) e in
        absurd (omega arith)
      where
        less : (i : ℕ) → i < suc N → unskip y (f i) < N
        less i l = unskip_lt N y (f i) (miss i l) h (into i l)

        back : (i j : ℕ) → i < suc N → j < suc N → unskip y (f i) ≡ unskip y (f j) → i ≡ j
        back i j li lj e = inj i j li lj (sym (skip-unskip y (f i) (miss i li)) ∙ ap (skip y) e ∙ skip-unskip y (f j) (miss j lj))
