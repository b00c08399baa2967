-- A list that is written from the front. Assumes nothing.
use mathlib.Core.Path.{◌≡◌, sym, subst}
use mathlib.Core.Logic.{◌⊎◌, inl, inr}
use mathlib.Core.List.{List}
use Prim.Native.Nat.{ℕ, ◌+◌, ◌≤◌, ◌<◌}
use native.Mathlib.Omega.{arith}
use lib.ListN.{length, get_or, set}
use lib.Seq.{get_or-set_same, get_or-set_other}
use Rattle.ranges.proofs.Order.{lt_or_ge}

-- each of the first t elements has P, and one more; z stands where the list has none
pub written : {A : Type 0} (z : A) (P : ℕ → A → Type 0) (out : List A) (t : ℕ) (x : A) → t < length out
    → ((s : ℕ) → s < t → P s (get_or out s z)) → P t x → (s : ℕ) → s < t + 1 → P s (get_or (set out t x) s z)
written z P out t x room old here s h = go (lt_or_ge s t)
  where
    go : (s < t) ⊎ (t ≤ s) → P s (get_or (set out t x) s z)
    go (inl l) = subst (P s) (sym (get_or-set_other out t s x z (omega arith))) (old s l)
    go (inr l) =
        let e : s ≡ t = omega arith in
        rw e (subst (P t) (sym (get_or-set_same out t x z room)) here)
