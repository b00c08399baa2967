-- Ranges and lists made of them: parts, lengths and elements. Assumes nothing.
use mathlib.Core.Path.{◌≡◌, refl, ap, ap₂, ◌∙◌}
use mathlib.Core.List.{List, [], ◌∷◌, ◌++◌, map}
use Prim.Native.Nat.{ℕ, zero, suc, ◌+◌, ◌-◌, ◌<◌, min}
use native.Mathlib.Nat.{suc-add}
use native.Mathlib.Omega.{arith}
use lib.ListN.{length, get_or, take, drop}
use Rattle.ranges.specs.Range.{range}

pub range_add : (s p q : ℕ) → range s (p + q) ≡ range s p ++ range (s + p) q
unfolding range
range_add s zero q = let e : 0 + q ≡ q = omega arith in let f : s ≡ s + 0 = omega arith in ap₂ range f e
range_add s (suc p) q =
    let e : suc s + p ≡ s + suc p = omega arith in
    ap (range s) (suc-add p q) ∙ ap (λ (l : List ℕ). s ∷ l) (range_add (suc s) p q ∙ ap (λ (t : ℕ). range (suc s) p ++ range t q) e)

module _ {A : Type 0} (f : ℕ → A) where
  pub length-each : (s n : ℕ) → length (map f (range s n)) ≡ n
  unfolding range
  length-each s zero = refl
  length-each s (suc n) = ap suc (length-each (suc s) n)

  pub getD_each : (s n i : ℕ) (d : A) → i < n → get_or (map f (range s n)) i d ≡ f (s + i)
  unfolding range
  getD_each s zero i d h = absurd (omega arith)
  getD_each s (suc n) zero d h = ap f (omega arith)
  getD_each s (suc n) (suc i) d h = getD_each (suc s) n i d (omega arith) ∙ ap f (omega arith)

  -- one more, as a loop that fills a buffer from its front meets it
  pub each-suc : (s n : ℕ) → map f (range s (suc n)) ≡ map f (range s n) ++ (f (s + n) ∷ [])
  unfolding range
  each-suc s zero = let e : s ≡ s + 0 = omega arith in ap (λ (i : ℕ). f i ∷ []) e
  each-suc s (suc n) =
      let e : suc s + n ≡ s + suc n = omega arith in
      ap (λ (l : List A). f s ∷ l) (each-suc (suc s) n ∙ ap (λ (i : ℕ). map f (range (suc s) n) ++ (f i ∷ [])) e)

  pub take-each : (s n j : ℕ) → take j (map f (range s n)) ≡ map f (range s (min j n))
  unfolding range
  take-each s n zero = let e : 0 ≡ min 0 n = omega arith in ap (λ (c : ℕ). map f (range s c)) e
  take-each s zero (suc j) = let e : 0 ≡ min (suc j) 0 = omega arith in ap (λ (c : ℕ). map f (range s c)) e
  take-each s (suc n) (suc j) =
      let e : suc (min j n) ≡ min (suc j) (suc n) = omega arith in
      ap (λ (l : List A). f s ∷ l) (take-each (suc s) n j) ∙ ap (λ (c : ℕ). map f (range s c)) e

  pub drop-each : (s n p : ℕ) → drop p (map f (range s n)) ≡ map f (range (s + p) (n - p))
  unfolding range
  drop-each s n zero = let e : s ≡ s + 0 = omega arith in let k : n ≡ n - 0 = omega arith in ap₂ (λ (t c : ℕ). map f (range t c)) e k
  drop-each s zero (suc p) = let k : 0 ≡ 0 - suc p = omega arith in ap (λ (c : ℕ). map f (range (s + suc p) c)) k
  drop-each s (suc n) (suc p) =
      let e : suc s + p ≡ s + suc p = omega arith in
      let k : n - p ≡ suc n - suc p = omega arith in
      drop-each (suc s) n p ∙ ap₂ (λ (t c : ℕ). map f (range t c)) e k
