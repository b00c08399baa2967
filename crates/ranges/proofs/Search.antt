-- What a search finds: the least number below n that passes a test. Assumes nothing.
use mathlib.Core.Path.{◌≡◌, refl}
use mathlib.Core.Logic.{◌⊎◌, inl, inr}
use mathlib.Core.Bool.{Bool, true, false}
use Prim.Native.Nat.{ℕ, zero, suc, ◌≤◌, ◌<◌}
use native.Mathlib.Omega.{arith}
use Rattle.ranges.specs.Search.{search}
use Rattle.ranges.proofs.Order.{lt_or_ge}

-- what a search finds: a number below n, or n where none passes
pub record Found (n : ℕ) (test : ℕ → Bool) (k : ℕ) : Type 0 where
  pub le : k ≤ n
  pub holds : k < n → test k ≡ true
  pub least : (i : ℕ) → i < k → test i ≡ false

pub search-found : (n : ℕ) (test : ℕ → Bool) → Found n test (search n test)
unfolding search
search-found zero test = record { le = omega arith; holds = λ h. absurd (omega arith); least = λ i h. absurd (omega arith) }
search-found (suc n) test = go (test 0) refl (search-found n (λ i. test (suc i)))
  where
    go : (t : Bool) → test 0 ≡ t → Found n (λ i. test (suc i)) (search n (λ i. test (suc i)))
        → Found (suc n) test (elim t [ true ↦ 0 | false ↦ suc (search n (λ i. test (suc i))) ])
    go true e ih = record { le = omega arith; holds = λ h. e; least = λ i h. absurd (omega arith) }
    go false e ih = record { le = let l = ih.le in omega arith; holds = λ h. ih.holds (omega arith); least = before }
      where
        before : (i : ℕ) → i < suc (search n (λ i. test (suc i))) → test i ≡ false
        before zero h = e
        before (suc i) h = ih.least i (omega arith)

-- a test and its opposite do not both hold
pub clash : {t : Bool} → t ≡ true → t ≡ false → ⊥
clash p q = let z : ◌≡◌ {A = ℕ} 0 1 = cc in omega arith

-- the search does not pass a number that passes the test
pub search_le : (n : ℕ) (test : ℕ → Bool) (p : ℕ) → test p ≡ true → search n test ≤ p
search_le n test p hit = go (lt_or_ge p (search n test))
  where
    go : (p < search n test) ⊎ (search n test ≤ p) → search n test ≤ p
    go (inl l) = absurd (clash hit ((search-found n test).least p l))
    go (inr l) = l
