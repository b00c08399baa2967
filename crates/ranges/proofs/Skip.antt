-- The numbers other than j, in order, and back. Assumes nothing.
use mathlib.Core.Path.{◌≡◌, refl, ap}
use mathlib.Core.Logic.{◌⊎◌, inl, inr, ◌≢◌}
use Prim.Native.Nat.{ℕ, zero, suc, pred, ◌≤◌, ◌<◌}
use native.Mathlib.Omega.{arith}
use Rattle.ranges.specs.Skip.{skip}
use Rattle.ranges.proofs.Order.{lt_or_ge}

pub skip_below : (j c : ℕ) → c < j → skip j c ≡ c
unfolding skip
skip_below zero c h = absurd (omega arith)
skip_below (suc j) zero h = refl
skip_below (suc j) (suc c) h = ap suc (skip_below j c (omega arith))

pub skip_above : (j c : ℕ) → j ≤ c → skip j c ≡ suc c
unfolding skip
skip_above zero c h = refl
skip_above (suc j) zero h = absurd (omega arith)
skip_above (suc j) (suc c) h = ap suc (skip_above j c (omega arith))

pub skip_ne : (j c : ℕ) → skip j c ≢ j
unfolding skip
skip_ne zero c = omega arith
skip_ne (suc j) zero = omega arith
skip_ne (suc j) (suc c) = let ih = skip_ne j c in omega arith

pub skip_lt : (n j c : ℕ) → c < n → skip j c < suc n
skip_lt n j c h = go (lt_or_ge c j)
  where
    go : (c < j) ⊎ (j ≤ c) → skip j c < suc n
    go (inl l) = rw (skip_below j c l) (omega arith)
    go (inr l) = rw (skip_above j c l) (omega arith)

pub skip_inj : (j a b : ℕ) → skip j a ≡ skip j b → a ≡ b
unfolding skip
skip_inj zero a b e = omega arith
skip_inj (suc j) zero zero e = refl
skip_inj (suc j) zero (suc b) e = absurd (omega arith)
skip_inj (suc j) (suc a) zero e = absurd (omega arith)
skip_inj (suc j) (suc a) (suc b) e = ap suc (skip_inj j a b (omega arith))

-- how many numbers other than j come before k
unfoldable pub unskip : ℕ → ℕ → ℕ
unskip zero k = pred k
unskip (suc j) zero = zero
unskip (suc j) (suc k) = suc (unskip j k)

pub unskip-skip : (j c : ℕ) → unskip j (skip j c) ≡ c
unfolding unskip skip
unskip-skip zero c = omega arith
unskip-skip (suc j) zero = refl
unskip-skip (suc j) (suc c) = ap suc (unskip-skip j c)

pub skip-unskip : (j k : ℕ) → k ≢ j → skip j (unskip j k) ≡ k
unfolding unskip skip
skip-unskip zero zero h = absurd (omega arith)
skip-unskip zero (suc k) h = omega arith
skip-unskip (suc j) zero h = refl
skip-unskip (suc j) (suc k) h = ap suc (skip-unskip j k (omega arith))

pub unskip_lt : (n j k : ℕ) → k ≢ j → j < suc n → k < suc n → unskip j k < n
unskip_lt n j k ne hj hk = go (lt_or_ge (unskip j k) n)
  where
    go : (unskip j k < n) ⊎ (n ≤ unskip j k) → unskip j k < n
    go (inl l) = l
    go (inr l) = absurd (omega (arith, skip_above j (unskip j k) (omega arith), skip-unskip j k ne))
