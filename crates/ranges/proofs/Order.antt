-- Cases of order on numbers, and of the numbers below n: one of them lacks a property, or all have it. Assumes nothing.
use mathlib.Core.Path.{◌≡◌}
use mathlib.Core.Logic.{◌⊎◌, inl, inr, ◌≢◌}
use Prim.Native.Nat.{ℕ, zero, suc, ◌≤◌, ◌<◌}
use native.Mathlib.Decide.{dec_lt, ℕ_discrete}
use native.Mathlib.Omega.{arith}

pub lt_or_ge : (a b : ℕ) → (a < b) ⊎ (b ≤ a)
lt_or_ge a b = go (dec_lt a b)
  where
    go : Dec (a < b) → (a < b) ⊎ (b ≤ a)
    go (yes h) = inl h
    go (no h) = inr (omega arith)

pub eq_or_ne : (a b : ℕ) → (a ≡ b) ⊎ (a ≢ b)
eq_or_ne a b = go (ℕ_discrete a b)
  where
    go : Dec (a ≡ b) → (a ≡ b) ⊎ (a ≢ b)
    go (yes h) = inl h
    go (no h) = inr h

-- the numbers below n: one that has not Q, or all have it
pub find : (n : ℕ) (Q : ℕ → Type 0) → ((i : ℕ) → Dec (Q i)) → ((i : ℕ) × (i < n) × (¬ (Q i))) ⊎ ((i : ℕ) → i < n → Q i)
find zero Q dec = inr (λ i l. absurd (omega arith))
find (suc n) Q dec = go (dec n) (find n Q dec)
  where
    last : Q n → ((i : ℕ) → i < n → Q i) → (i : ℕ) → i < suc n → (i ≡ n) ⊎ (i ≢ n) → Q i
    last h r i l (inl e) = rw e h
    last h r i l (inr ne) = r i (omega arith)

    go : Dec (Q n) → ((i : ℕ) × (i < n) × (¬ (Q i))) ⊎ ((i : ℕ) → i < n → Q i)
        → ((i : ℕ) × (i < suc n) × (¬ (Q i))) ⊎ ((i : ℕ) → i < suc n → Q i)
    go (no h) r = inl (n, omega arith, h)
    go (yes h) (inl (i, l, k)) = inl (i, omega arith, k)
    go (yes h) (inr r) = inr (λ i l. last h r i l (eq_or_ne i n))
