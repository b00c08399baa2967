-- What holds of each element of a list holds of its parts; and lists made of such elements. Assumes nothing.
use mathlib.Core.List.{List, [], ◌∷◌, ◌++◌, map}
use Prim.Native.Nat.{ℕ, zero, suc, ◌+◌, ◌≤◌, ◌<◌}
use native.Mathlib.Omega.{arith}
use lib.ListN.{drop, replicate}
use Rattle.ranges.specs.Range.{range}
use Rattle.ranges.specs.Each.{Each}

module _ {A : Type 0} (P : A → Type 0) where
  pub each_append : (s t : List A) → Each P s → Each P t → Each P (s ++ t)
  each_append [] t p q = q
  each_append (a ∷ s) t p q = (p.0, each_append s t p.1 q)

  pub each-drop : (n : ℕ) (s : List A) → Each P s → Each P (drop n s)
  each-drop zero s p = p
  each-drop (suc n) [] p = tt
  each-drop (suc n) (a ∷ s) p = each-drop n s p.1

  pub each-replicate : (n : ℕ) (a : A) → P a → Each P (replicate n a)
  each-replicate zero a p = tt
  each-replicate (suc n) a p = (p, each-replicate n a p)

  pub each-of-range : (f : ℕ → A) (s n : ℕ) → ((i : ℕ) → s ≤ i → i < s + n → P (f i)) → Each P (map f (range s n))
  unfolding range
  each-of-range f s zero h = tt
  each-of-range f s (suc n) h = (h s (omega arith) (omega arith), each-of-range f (suc s) n (λ i l u. h i (omega arith) (omega arith)))
