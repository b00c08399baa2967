-- Sums of an edge and an offset keep the order of the offsets.
-- Assumes nothing.
use mathlib.Core.Path.{◌≡◌, refl, sym, ap, ◌∙◌, subst}
use mathlib.Core.Bool.{Bool, true, false, cond}
use Prim.Native.Nat.{ℕ, suc, ◌+◌, ◌-◌, ◌≤◌, ◌<◌}
use native.Mathlib.Omega.{arith}
use borrow.Author.Tests.{ltb-true, ltb-false}
use lib.Dec.{T, ltb, le→leb, lt→ltb}
use lib.IntN.{ℤ, pos, negsuc, ◌+ℤ◌, +ℤ_assoc}
use lib.Signed.{lt_z, le_z, ◌≤ℤ◌, ◌<ℤ◌, le_z_yes, lt_z_yes}

below-plus : (a n : ℕ) (b : Bool) → T (le_z (negsuc a) (cond b (negsuc (suc a - suc n)) (pos (n - suc a))))
below-plus a n true = le→leb (suc a - suc n) a (omega arith)
below-plus a n false = tt

-- e ≤ e + n
pub le_plus : (e : ℤ) (n : ℕ) → e ≤ℤ (e +ℤ pos n)
le_plus (pos a) n = le_z_yes (le→leb a (a + n) (omega arith))
le_plus (negsuc a) n = le_z_yes (below-plus a n (ltb n (suc a)))

-- e + m < e + n where m < n
pub plus_lt_plus : (e : ℤ) (m n : ℕ) → m < n → (e +ℤ pos m) <ℤ (e +ℤ pos n)
plus_lt_plus (pos a) m n h = lt_z_yes (lt→ltb (a + m) (a + n) (omega arith))
plus_lt_plus (negsuc a) m n h = lt_z_yes (go (ltb m (suc a)) (ltb n (suc a)) refl refl)
  where
    go : (b c : Bool) → ltb m (suc a) ≡ b → ltb n (suc a) ≡ c
        → T (lt_z (cond b (negsuc (suc a - suc m)) (pos (m - suc a))) (cond c (negsuc (suc a - suc n)) (pos (n - suc a))))
    go true true p q = lt→ltb (suc a - suc n) (suc a - suc m) (omega (arith, h, ltb-true n (suc a) q))
    go true false p q = tt
    go false true p q = absurd (omega (arith, h, ltb-false m (suc a) p, ltb-true n (suc a) q))
    go false false p q = lt→ltb (m - suc a) (n - suc a) (omega (arith, h, ltb-false m (suc a) p))

-- e + m + k ≤ e + n where m + k ≤ n
pub plus_le_plus : (e : ℤ) (m k n : ℕ) → m + k ≤ n → ((e +ℤ pos m) +ℤ pos k) ≤ℤ (e +ℤ pos n)
plus_le_plus e m k n h =
    let rest : m + k + (n - (m + k)) ≡ n = omega arith in
    let left : (e +ℤ pos (m + k)) ≡ ((e +ℤ pos m) +ℤ pos k) = sym (+ℤ_assoc e (pos m) (pos k)) in
    let right : ((e +ℤ pos (m + k)) +ℤ pos (n - (m + k))) ≡ (e +ℤ pos n) =
    +ℤ_assoc e (pos (m + k)) (pos (n - (m + k))) ∙ ap (λ (j : ℕ). e +ℤ pos j) rest in
    subst (λ (z : ℤ). z ≤ℤ (e +ℤ pos n)) left (subst (λ (z : ℤ). (e +ℤ pos (m + k)) ≤ℤ z) right (le_plus (e +ℤ pos (m + k)) (n - (m + k))))
