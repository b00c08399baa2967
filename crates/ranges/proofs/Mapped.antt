-- A list changed in place from its front, element by element. Assumes nothing.
use mathlib.Core.Path.{◌≡◌, refl, ap, ◌∙◌}
use mathlib.Core.List.{List, [], ◌∷◌, ◌++◌, map, append-nil}
use Prim.Native.Nat.{ℕ, zero, suc, ◌≤◌, ◌<◌}
use native.Mathlib.Nat.{le_of_suc-le-suc, not-suc-le-zero}
use lib.ListN.{length, get_or, take, drop, set, drop_of_length-le}
use lib.Seq.{take_all}

module _ {A : Type 0} (z : A) (f : A → A) where
  -- one element more
  pub map-step : (l : List A) (i : ℕ) (x : A) → i < length l → x ≡ f (get_or l i z)
      → set (map f (take i l) ++ drop i l) i x ≡ map f (take (suc i) l) ++ drop (suc i) l
  map-step [] i x h e = absurd (not-suc-le-zero h)
  map-step (y ∷ ys) zero x h e = ap (λ (w : A). w ∷ ys) e
  map-step (y ∷ ys) (suc i) x h e = ap (λ (l : List A). f y ∷ l) (map-step ys i x (le_of_suc-le-suc h) e)

  -- the next one has not been changed yet
  pub map_next : (l : List A) (i : ℕ) → i < length l → get_or (map f (take i l) ++ drop i l) i z ≡ get_or l i z
  map_next [] i h = absurd (not-suc-le-zero h)
  map_next (y ∷ ys) zero h = refl
  map_next (y ∷ ys) (suc i) h = map_next ys i (le_of_suc-le-suc h)

  pub map_whole : (l : List A) (i : ℕ) → length l ≤ i → map f (take i l) ++ drop i l ≡ map f l
  map_whole l i h =
      ap (λ (m : List A). map f m ++ drop i l) (take_all i l h) ∙ ap (λ (m : List A). map f l ++ m) (drop_of_length-le l h) ∙ append-nil (map f l)

  -- an element of the changed list
  pub map_at : (l : List A) (i : ℕ) → i < length l → get_or (map f l) i z ≡ f (get_or l i z)
  map_at [] i h = absurd (not-suc-le-zero h)
  map_at (y ∷ ys) zero h = refl
  map_at (y ∷ ys) (suc i) h = map_at ys i (le_of_suc-le-suc h)
