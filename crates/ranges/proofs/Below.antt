-- Bounds of lists: from their elements, of their elements, and of their parts. Assumes nothing.
use mathlib.Core.List.{List, [], ◌∷◌, ◌++◌, map}
use Prim.Native.Nat.{ℕ, zero, suc, ◌<◌}
use lib.ListN.{get_or, take, drop}
use Rattle.ranges.specs.Below.{Below}

module _ (n : ℕ) where
  pub below_at : (C : List ℕ) (c : ℕ) → 0 < n → Below n C → get_or C c 0 < n
  below_at [] c h below = h
  below_at (x ∷ C) zero h below = below.0
  below_at (x ∷ C) (suc c) h below = below_at C c h below.1

  pub below_of : (C : List ℕ) → ((c : ℕ) → get_or C c 0 < n) → Below n C
  below_of [] h = tt
  below_of (x ∷ C) h = (h 0, below_of C (λ c. h (suc c)))

  pub below-map : (f : ℕ → ℕ) (l : List ℕ) → ((x : ℕ) → f x < n) → Below n (map f l)
  below-map f [] h = tt
  below-map f (x ∷ l) h = (h x, below-map f l h)

  pub below-take : (k : ℕ) (C : List ℕ) → Below n C → Below n (take k C)
  below-take zero C h = tt
  below-take (suc k) [] h = tt
  below-take (suc k) (x ∷ C) h = (h.0, below-take k C h.1)

  pub below-drop : (k : ℕ) (C : List ℕ) → Below n C → Below n (drop k C)
  below-drop zero C h = h
  below-drop (suc k) [] h = tt
  below-drop (suc k) (x ∷ C) h = below-drop k C h.1

  pub below-append : (C D : List ℕ) → Below n C → Below n D → Below n (C ++ D)
  below-append [] D h k = k
  below-append (x ∷ C) D h k = (h.0, below-append C D h.1 k)
