-- What users rely on. The position lies in the region because the offset is below the extent; the field does, because the offset is below the span.
-- Assumes nothing.
use mathlib.Core.Path.{◌≡◌, refl, sym, ap, ap₂, ◌∙◌, subst}
use mathlib.Core.Bool.{Bool, true, false, not}
use mathlib.Core.List.{[], ◌∷◌}
use Prim.Native.Nat.{ℕ, suc, ◌+◌, ◌-◌, ◌*◌, ◌/◌, ◌^◌, ◌≤◌, ◌<◌}
use native.Mathlib.Nat.{div-mul-le_self, div-lt_iff_lt-mul, mul-lt-mul_of_pos_right, mul_comm, le_refl}
use native.Mathlib.Omega.{arith}
use lib.Dec.{lit<}
use lib.IntN.{ℤ, pos, ◌+ℤ◌, +ℤ_idr}
use Rattle.refusal.specs.Outcome.{Outcome, accepted, refused, first}
use Rattle.refusal.proofs.First.{first-refuses, first_passes, accepted-refused, accepted-same, refused-same}
use Rattle.stage.specs.declared.regions.Region.{Region}
use Rattle.stage.specs.declared.regions.Field.{Field}
use Rattle.stage.specs.declared.regions.Position.{Position}
use Rattle.stage.specs.Position.{offset, position}
use Rattle.stage.specs.Field.{field_extent, span}
use Rattle.stage.specs.Region.{within, takes, outside, corners, position_in, position_outcome}
use Rattle.stage.specs.Base.{base_position_outcome}
use Rattle.stage.specs.Theorem.{InExtent, FieldInside, PositionOf, Reached, Theorems}
use Rattle.stage.proofs.Limits.{within_has}
use Rattle.stage.proofs.Sums.{le_plus, plus_lt_plus, plus_le_plus}
use Rattle.stage.proofs.Fit.{
  field_extent_pos,
  corners-least,
  takes_has,
  takes-from,
  not_taken,
  larger,
  ten-first,
  both_pass,
  pass_both,
  tests-least,
}

offset_lt : (x w : ℕ) → 0 < x → w < 2 ^ 32 → offset x w < x
offset_lt x w p h = (div-lt_iff_lt-mul (lit< tt)).1 (subst (λ (k : ℕ). w * x < k) (mul_comm (2 ^ 32) x) (mul-lt-mul_of_pos_right h p))

axis : (e : ℤ) (x w : ℕ) → 0 < x → w < 2 ^ 32 → InExtent e x (position e x w)
axis e x w p h = (le_plus e (offset x w), plus_lt_plus e (offset x w) x (offset_lt x w p h))

-- ---- the field on one axis

module _ (e : ℤ) (x f w : ℕ) (fits : field_extent f ≤ x) where
  formula : position e (span x f) w ≡ (e +ℤ pos (w * (x - field_extent f + 1) / 2 ^ 32))
  formula =
      let same : span x f ≡ x - field_extent f + 1 = omega (arith, fits) in
      ap (λ (k : ℕ). e +ℤ pos (w * k / 2 ^ 32)) same

  field-inside : w < 2 ^ 32 → FieldInside e x (field_extent f) (position e (span x f) w)
  field-inside h =
      let some : 0 < span x f = omega (arith, fits) in
      let less = offset_lt (span x f) w some h in
      (le_plus e (offset (span x f) w), plus_le_plus e (offset (span x f) w) (field_extent f) x (omega (arith, less, fits)))

  only_edge : w < 2 ^ 32 → field_extent f ≡ x → position e (span x f) w ≡ e
  only_edge h all =
      let one : span x f ≡ 1 = omega (arith, all) in
      let some : 0 < span x f = omega (arith, one) in
      let less = offset_lt (span x f) w some h in
      let none : offset (span x f) w ≡ 0 = omega (arith, less, one) in
      ap (λ (k : ℕ). e +ℤ pos k) none ∙ +ℤ_idr e

-- ---- every place is reached

-- the least word that lies i places from the edge, where there are s places
abbrev word_for : ℕ → ℕ → ℕ
word_for s i = (i * 2 ^ 32 + s - 1) / s

module _ (s i : ℕ) (some : i < s) (few : s ≤ 2 ^ 32) where
  word_lt : word_for s i < 2 ^ 32
  word_lt =
      let pos-s : 0 < s = omega arith in
      let below : i * 2 ^ 32 + s - 1 < 2 ^ 32 * s = omega arith in
      (div-lt_iff_lt-mul pos-s).1 below

  word-offset : offset s (word_for s i) ≡ i
  word-offset =
      let pos-s : 0 < s = omega arith in
      let low = div-mul-le_self (i * 2 ^ 32 + s - 1) s in
      let high : i * 2 ^ 32 + s - 1 < suc (word_for s i) * s = (div-lt_iff_lt-mul pos-s).0 (le_refl (suc (word_for s i))) in
      let product : ℕ = word_for s i * s in
      let below : product < suc i * 2 ^ 32 = omega (arith, low) in
      let above : i * 2 ^ 32 ≤ product = omega (arith, high) in
      let less : offset s (word_for s i) < suc i = (div-lt_iff_lt-mul (lit< tt)).1 below in
      let more : product < suc (offset s (word_for s i)) * 2 ^ 32 = (div-lt_iff_lt-mul (lit< tt)).0 (le_refl (suc (product / 2 ^ 32))) in
      omega (arith, less, more, above)

-- ---- which calls are refused

module _ (f : Field) (r : Region) (x y : ℕ) where
  abbrev outcome : Outcome Position
  outcome = position_outcome f r x y

  sixteen_has : within r ≡ true → outcome ≡ refused 16 [] → takes f r ≡ false
  sixteen_has i e = go (takes f r) refl
    where
      go : (b : Bool) → takes f r ≡ b → takes f r ≡ false
      go false h = h
      go true h = absurd (accepted-refused (sym (pass_both _ f r i h) ∙ e))

  sixteen_is : within r ≡ true → takes f r ≡ false → outcome ≡ refused 16 []
  sixteen_is i t = first_passes _ 10 _ (ap not i) ∙ first-refuses _ 16 [] (ap not t)

  ten_has : outcome ≡ refused 10 [] → within r ≡ false
  ten_has e = go (within r) refl (takes f r) refl
    where
      go : (a : Bool) → within r ≡ a → (b : Bool) → takes f r ≡ b → within r ≡ false
      go false i b t = i
      go true i true t = absurd (accepted-refused (sym (pass_both _ f r i t) ∙ e))
      go true i false t = let same : ◌≡◌ {A = ℕ} 10 16 = refused-same (sym e ∙ sixteen_is i t) in absurd (omega arith)

-- ---- what a call gives

module _ (f : Field) (r : Region) (x y : ℕ) where
  given : (p : Position) → x < 2 ^ 32 → y < 2 ^ 32 → position_outcome f r x y ≡ accepted p → PositionOf f r x y p
  unfolding corners
  given p hx hy e =
      let passed = both_pass (accepted (position_in (corners f r) x y)) f r e in
      let k = takes_has f r passed.1 in
      let same : position_in (corners f r) x y ≡ p = accepted-same passed.2 in
      subst (PositionOf f r x y) same (record {
        across = formula r.left r.width f.width x k.width;
        down = formula r.top r.height f.height y k.height;
        inside = record {
          across = field-inside r.left r.width f.width x k.width hx;
          down = field-inside r.top r.height f.height y k.height hy;
        };
        left_edge = only_edge r.left r.width f.width x k.width hx;
        top_edge = only_edge r.top r.height f.height y k.height hy;
      })

  base : f.width ≤ 1 → f.height ≤ 1 → position_outcome f r x y ≡ base_position_outcome r x y
  base w h =
      tests-least (accepted (position_in (corners f r) x y)) f r w h
      ∙ ap (λ (c : Region). first (outside r ∷ []) (accepted (position_in c x y))) (corners-least f r w h)

reached : Reached
unfolding corners
reached f r i j e hi hj =
    let W = within_has r e in
    let most-width = W.width in
    let most-height = W.height in
    let some-width = field_extent_pos f.width in
    let some_height = field_extent_pos f.height in
    let t = takes-from f r (record { width = omega (arith, hi); height = omega (arith, hj) }) in
    let s = span r.width f.width in
    let u = span r.height f.height in
    let less-i : i < s = omega (arith, hi) in
    let less-j : j < u = omega (arith, hj) in
    let few-s : s ≤ 2 ^ 32 = omega (arith, most-width, some-width) in
    let few-u : u ≤ 2 ^ 32 = omega (arith, most-height, some_height) in (
      word_for s i,
      word_for u j,
      word_lt s i less-i few-s,
      word_lt u j less-j few-u,
      pass_both _ f r e t
          ∙ ap₂ (λ (k l : ℕ). accepted (record { x = r.left +ℤ pos k; y = r.top +ℤ pos l })) (word-offset s i less-i few-s)
          (word-offset u j less-j few-u),
    )

pub theorems : Theorems
theorems = record {
  floor = λ x w. (div-mul-le_self (w * x) (2 ^ 32), (div-lt_iff_lt-mul (lit< tt)).0 (le_refl (suc (offset x w))));
  inside = λ r x y e hx hy.
      let w = within_has r e in
      (axis r.left r.width x w.some-width hx, axis r.top r.height y w.some_height hy);
  given = given;
  reached = reached;
  ten = λ f r x y. (ten_has f r x y, ten-first _ f r);
  sixteen = λ f r x y i. (λ e. not_taken f r (sixteen_has f r x y i e), λ o. sixteen_is f r x y i (larger f r o));
  base = base;
}
