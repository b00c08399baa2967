-- An additive map is told by what it makes of the powers of the base; and the solution by a basis is additive in what is asked for, so that
-- the solutions for the powers tell all. Assumes nothing.
use mathlib.Core.Path.{◌≡◌, sym, ap, ap₂, ◌∙◌}
use mathlib.Core.List.{List, [], ◌∷◌}
use Prim.Native.Nat.{ℕ, zero, suc, ◌/◌, ◌%◌, ◌^◌, ◌<◌}
use native.Mathlib.Nat.{pow-zero, pow-succ', div-lt_iff_lt-mul, mod-lt, div-add-mod'}
use native.Mathlib.Omega.{arith}
use lib.ListN.{get_or}
use Rattle.digits.specs.Digits.{plus, times}
use Rattle.digits.proofs.Digit.{pow_pos}
use Rattle.digits.proofs.Arithmetic.{plus-zero, times-pow}
use Rattle.net.specs.Generators.{product}
use Rattle.net.specs.Elimination.{Additive, BasisEntry, solve}
use Rattle.net.proofs.Additive.{of_zero, of-times, same-additive, chain_additive, sum-additive, less_additive, digit-additive}
use Rattle.net.proofs.Interval.{block-plus}
use Rattle.net.proofs.Product.{product-additive, product-pow}

module _ {b : ℕ} (big : 1 < b) where
  -- the solution by a basis
  pub solve-additive : {L : ℕ → ℕ} → Additive b L → (fs : List BasisEntry) → Additive b (solve b L fs)
  unfolding solve
  solve-additive A [] = record { base = big; splits = λ i j. sym (plus-zero big 0) }
  solve-additive A (f ∷ fs) =
      let S = solve-additive A fs in
      sum-additive S (digit-additive (less_additive (same-additive big) (chain_additive S A)) f.pivot f.inverse f.index)

  -- two additive maps that agree on the first n powers agree on all numbers of n digits
  pub additive_ext : {K L : ℕ → ℕ} → Additive b K → Additive b L → (n : ℕ) → ((t : ℕ) → t < n → K (b ^ t) ≡ L (b ^ t)) → (v : ℕ) → v < b ^ n
      → K v ≡ L v
  additive_ext {K} {L} A B zero same v h =
      let z : v ≡ 0 = omega (arith, rw pow-zero at h) in
      rw z (of_zero A ∙ sym (of_zero B))
  additive_ext {K} {L} A B (suc n) same v h =
      let t = v / b ^ n in
      let p = v % b ^ n in
      let small : t < b = (div-lt_iff_lt-mul (pow_pos big n)).1 (rw pow-succ' at h) in
      let low : p < b ^ n = mod-lt v (pow_pos big n) in
      let parts : v ≡ plus b p (times b t (b ^ n)) =
      sym (div-add-mod' v (b ^ n)) ∙ block-plus big n t p low ∙ ap (plus b p) (sym (times-pow big t n small)) in
      ap K parts ∙ A.splits p (times b t (b ^ n))
      ∙ ap₂ (plus b) (additive_ext A B n (λ u l. same u (omega arith)) p low)
      (of-times A t (b ^ n) ∙ ap (times b t) (same n (omega arith)) ∙ sym (of-times B t (b ^ n)))
      ∙ sym (ap L parts ∙ B.splits p (times b t (b ^ n)))

  -- columns that are the images of the first n powers
  pub product_ext : {L : ℕ → ℕ} → Additive b L → (C : List ℕ) (n : ℕ) → ((t : ℕ) → t < n → get_or C t 0 ≡ L (b ^ t)) → (v : ℕ) → v < b ^ n
      → product b C v ≡ L v
  product_ext A C n same = additive_ext (product-additive big C) A n (λ t h. product-pow big C t ∙ same t h)
