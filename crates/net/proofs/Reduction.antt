-- Reduction by a basis, whatever its pivots: what is left is clear at the pivots, keeps its high digits, and is the index less the
-- solution for its image. Assumes nothing.
use mathlib.Core.Path.{◌≡◌, refl, sym, ap, ap₂, ◌∙◌}
use mathlib.Core.Logic.{◌⊎◌, inl, inr}
use mathlib.Core.List.{List, [], ◌∷◌}
use Prim.Native.Nat.{ℕ, suc, ◌+◌, ◌-◌, ◌*◌, ◌/◌, ◌%◌, ◌^◌, ◌<◌}
use native.Mathlib.Nat.{mod_self, mod-eq_of_lt, mul-one, pow-le-pow_right, lt_of_lt_of_le, div-eq_of_lt}
use native.Mathlib.Omega.{arith}
use Rattle.digits.specs.Digits.{digit, minus, times}
use Rattle.digits.proofs.Remainder.{mul_mod}
use Rattle.digits.proofs.Digit.{digit_lt, lt_of-div}
use Rattle.digits.proofs.Arithmetic.{digit-minus, digit-times, digit-minus-zero, digit-times-zero, minus-div, times-div, times-of-zero}
use Rattle.digits.proofs.Arithmetic.{minus-of-zero, minus-zero, minus_minus}
use Rattle.net.specs.Elimination.{Additive, BasisEntry, reduce, solve}
use Rattle.net.proofs.Additive.{of-minus, of-times}
use Rattle.net.proofs.Echelon.{Clear, Echelon}

-- the pivots of a basis
abbrev pub Pivot : List BasisEntry → ℕ → Type 0
Pivot [] q = ⊥
Pivot (f ∷ fs) q = Pivot fs q ⊎ (q ≡ f.pivot)

-- an entry over those before it; its index is below b ^ c
pub record Inserted (b : ℕ) (L : ℕ → ℕ) (c : ℕ) (f : BasisEntry) (fs : List BasisEntry) : Type 0 where
  pub low : f.index < b ^ c
  pub inverse : digit b f.pivot (L f.index) * f.inverse % b ≡ 1
  pub clear : Clear b (Pivot fs) (L f.index)

abbrev pub Basis : ℕ → (ℕ → ℕ) → ℕ → List BasisEntry → Type 0
Basis b L c [] = Unit
Basis b L c (f ∷ fs) = Inserted b L c f fs × Basis b L c fs

module _ {b : ℕ} {L : ℕ → ℕ} (A : Additive b L) where
  big : 1 < b
  big = A.base

  pub basis-suc : (c : ℕ) (fs : List BasisEntry) → Basis b L c fs → Basis b L (suc c) fs
  basis-suc c [] B = tt
  basis-suc c (f ∷ fs) B =
      let low : f.index < b ^ suc c = lt_of_lt_of_le B.0.low (pow-le-pow_right (omega arith) (omega arith)) in
      (record { low = low; inverse = B.0.inverse; clear = B.0.clear }, basis-suc c fs B.1)

  -- ---- one step of the reduction

  image : (r s f : ℕ) → L (minus b r (times b s f)) ≡ minus b (L r) (times b s (L f))
  image r s f = of-minus A r (times b s f) ∙ ap (minus b (L r)) (of-times A s f)

  -- x - (x v) y = 0 where y v = 1
  cancels : (x y v : ℕ) → x < b → y * v % b ≡ 1 → (x + (b - x * v * y % b)) % b ≡ 0
  cancels x y v h e =
      let one : x * v * y % b ≡ x =
      ap (λ (z : ℕ). z % b) (omega arith) ∙ sym (mul_mod b x (y * v)) ∙ ap (λ (z : ℕ). x * z % b) e ∙ rw mul-one (mod-eq_of_lt h) in
      ap (λ (z : ℕ). (x + (b - z)) % b) one ∙ ap (λ (z : ℕ). z % b) (omega arith) ∙ mod_self b

  pub reduce_clear : (c : ℕ) (fs : List BasisEntry) → Basis b L c fs → (e : ℕ) → Clear b (Pivot fs) (L (reduce b L fs e))
  unfolding reduce
  reduce_clear c [] B e q p = absurd p
  reduce_clear c (f ∷ fs) B e q p = ap (digit b q) (image r s f.index) ∙ go p (λ old. reduce_clear c fs B.1 e q old)
    where
      r : ℕ
      r = reduce b L fs e

      s : ℕ
      s = digit b f.pivot (L r) * f.inverse

      go : Pivot (f ∷ fs) q → (Pivot fs q → digit b q (L r) ≡ 0) → digit b q (minus b (L r) (times b s (L f.index))) ≡ 0
      go (inl old) ih = digit-minus-zero big (L r) (times b s (L f.index)) q (ih old) (digit-times-zero big s (L f.index) q (B.0.clear q old))
      go (inr at) ih =
          digit-minus big (L r) (times b s (L f.index)) q
          ∙ ap (λ (z : ℕ). (digit b q (L r) + (b - z)) % b) (digit-times big s (L f.index) q)
          ∙ rw at (cancels (digit b f.pivot (L r)) (digit b f.pivot (L f.index)) f.inverse (digit_lt big f.pivot (L r))
          B.0.inverse)

  pub reduce-top : (c : ℕ) (fs : List BasisEntry) → Basis b L c fs → (e : ℕ) → reduce b L fs e / b ^ c ≡ e / b ^ c
  unfolding reduce
  reduce-top c [] B e = refl
  reduce-top c (f ∷ fs) B e =
      minus-div big c r (times b s f.index)
      ∙ ap₂ (minus b) (reduce-top c fs B.1 e) (times-div big s c f.index ∙ ap (times b s) (div-eq_of_lt B.0.low) ∙ times-of-zero big s)
      ∙ minus-of-zero big (e / b ^ c)
    where
      r : ℕ
      r = reduce b L fs e

      s : ℕ
      s = digit b f.pivot (L r) * f.inverse

  -- what is left of e is e less the solution for its image
  pub solve-rest : (fs : List BasisEntry) (e : ℕ) → minus b e (solve b L fs (L e)) ≡ reduce b L fs e
  unfolding reduce solve
  solve-rest [] e = minus-of-zero big e
  solve-rest (f ∷ fs) e =
      let p = solve b L fs (L e) in
      let ih = solve-rest fs e in
      sym (minus_minus big e p (times b (digit b f.pivot (minus b (L e) (L p)) * f.inverse) f.index))
      ∙ ap₂ (λ (x y : ℕ). minus b x (times b (digit b f.pivot y * f.inverse) f.index)) ih (sym (of-minus A e p) ∙ ap L ih)

  -- so below b ^ c nothing is left
  pub solve-back : (c : ℕ) (fs : List BasisEntry) → Basis b L c fs → Echelon b L c (Pivot fs) → (i : ℕ) → i < b ^ c → solve b L fs (L i) ≡ i
  solve-back c fs B E i h =
      let low = lt_of-div big c (reduce b L fs i) (reduce-top c fs B i ∙ div-eq_of_lt h) in
      sym (minus-zero big i (solve b L fs (L i)) (solve-rest fs i ∙ E.only_zero (reduce b L fs i) low (reduce_clear c fs B i)))
