-- The reader's field and the places that its corner may take: how many they are, and that they are a region within its limits.
-- Assumes nothing.
use Rattle.std.specs.Prelude.{Result, Ok, Err, is_ok}
use mathlib.Core.Path.{◌≡◌, refl, sym, ap, ap₂, ◌∙◌}
use mathlib.Core.Bool.{Bool, true, false, not, ◌&&◌, true≢false}
use mathlib.Core.List.{[], ◌∷◌}
use mathlib.Core.Logic.{◌⊎◌, inl, inr, ◌≢◌}
use Prim.Native.Nat.{ℕ, ◌≤◌, ◌<◌}
use native.Mathlib.Omega.{arith}
use borrow.Author.Tests.{eq-eqb, ne_eqb, le-leb, leb-true, leb-false, not-false}
use lib.Dec.{leb}
use Rattle.ranges.proofs.Order.{eq_or_ne}
use Rattle.ranges.proofs.Tests.{both_hold}
use Rattle.refusal.specs.Outcome.{Outcome, accepted, refused, first}
use Rattle.refusal.specs.Refusal.{of_judgement}
use Rattle.refusal.specs.declared.Refusal.{Refusal}
use Rattle.refusal.proofs.First.{first-none, first-refuses, first_passes, accepted-refused, all_pass}
use Rattle.stage.specs.declared.regions.Field.{Field}
use Rattle.stage.specs.declared.regions.Region.{Region}
use Rattle.stage.specs.Field.{field_extent, span}
use Rattle.stage.specs.Region.{within, takes, outside, position_tests, corners, corner_outcome, position_outcome}
use Rattle.stage.proofs.Limits.{within_has, within-from}

-- 0 counts as 1, and every other word as itself
pub field_extent-none : (w : ℕ) → w ≡ 0 → field_extent w ≡ 1
unfolding field_extent
field_extent-none w e = simp (eq-eqb w 0 e)

pub field_extent-some : (w : ℕ) → (w ≡ 0 → ⊥) → field_extent w ≡ w
unfolding field_extent
field_extent-some w ne = simp (ne_eqb w 0 ne)

pub field_extent_pos : (w : ℕ) → 0 < field_extent w
field_extent_pos w = go (eq_or_ne w 0)
  where
    go : (w ≡ 0) ⊎ (w ≢ 0) → 0 < field_extent w
    go (inl e) = let one = field_extent-none w e in omega (arith, one)
    go (inr ne) = let same = field_extent-some w ne in omega (arith, same, ne)

-- a field of 0 or 1 reaches 1, so that its corner may take every place of the extent
field_extent-least : (w : ℕ) → w ≤ 1 → field_extent w ≡ 1
field_extent-least w h = go (eq_or_ne w 0)
  where
    go : (w ≡ 0) ⊎ (w ≢ 0) → field_extent w ≡ 1
    go (inl e) = field_extent-none w e
    go (inr ne) = let same = field_extent-some w ne in omega (arith, same, ne)

span-least : (x w : ℕ) → w ≤ 1 → span x w ≡ x
span-least x w h = let one = field_extent-least w h in omega (arith, one)

-- ---- a field that a region takes

pub record Takes (f : Field) (r : Region) : Type 0 where
  pub width : field_extent f.width ≤ r.width
  pub height : field_extent f.height ≤ r.height

pub takes_has : (f : Field) (r : Region) → takes f r ≡ true → Takes f r
unfolding takes
takes_has f r e =
    let both = both_hold _ _ e in
    record { width = leb-true (field_extent f.width) r.width both.0; height = leb-true (field_extent f.height) r.height both.1 }

pub takes-from : (f : Field) (r : Region) → Takes f r → takes f r ≡ true
unfolding takes
takes-from f r t = simp (le-leb (field_extent f.width) r.width t.width, le-leb (field_extent f.height) r.height t.height)

-- a field that is not taken is larger than the region on an axis
pub not_taken : (f : Field) (r : Region) → takes f r ≡ false → (r.width < field_extent f.width) ⊎ (r.height < field_extent f.height)
unfolding takes
not_taken f r e = go (leb (field_extent f.width) r.width) refl (leb (field_extent f.height) r.height) refl e
  where
    go : (a : Bool) → leb (field_extent f.width) r.width ≡ a → (b : Bool) → leb (field_extent f.height) r.height ≡ b
        → (leb (field_extent f.width) r.width && leb (field_extent f.height) r.height) ≡ false
        → (r.width < field_extent f.width) ⊎ (r.height < field_extent f.height)
    go false p b q e = inl (leb-false _ _ p)
    go true p false q e = inr (leb-false _ _ q)
    go true p true q e = absurd (true≢false (sym (ap₂ (λ (a b : Bool). a && b) p q) ∙ e))

pub larger : (f : Field) (r : Region) → (r.width < field_extent f.width) ⊎ (r.height < field_extent f.height) → takes f r ≡ false
larger f r o = go (takes f r) refl o
  where
    go : (b : Bool) → takes f r ≡ b → (r.width < field_extent f.width) ⊎ (r.height < field_extent f.height) → takes f r ≡ false
    go false e o = e
    go true e (inl h) = let k = (takes_has f r e).width in absurd (omega (arith, h, k))
    go true e (inr h) = let k = (takes_has f r e).height in absurd (omega (arith, h, k))

-- a region within its limits takes a field of 0 or 1
takes-least : (f : Field) (r : Region) → within r ≡ true → f.width ≤ 1 → f.height ≤ 1 → takes f r ≡ true
takes-least f r i w h =
    let W = within_has r i in
    let some-width = W.some-width in
    let some_height = W.some_height in
    let wide = field_extent-least f.width w in
    let high = field_extent-least f.height h in
    takes-from f r (record { width = omega (arith, wide, some-width); height = omega (arith, high, some_height) })

-- the places of its corner are a region within the limits
pub corners-within : (f : Field) (r : Region) → within r ≡ true → takes f r ≡ true → within (corners f r) ≡ true
unfolding corners
corners-within f r i t =
    let w = within_has r i in
    let k = takes_has f r t in
    let most-width = w.width in
    let most-height = w.height in
    let wide = k.width in
    let high = k.height in
    let some-width = field_extent_pos f.width in
    let some_height = field_extent_pos f.height in
    within-from (corners f r) (record {
      left = w.left;
      top = w.top;
      some-width = omega (arith, wide);
      width = omega (arith, most-width, some-width);
      some_height = omega (arith, high);
      height = omega (arith, most-height, some_height);
    })

-- a field of 0 or 1 leaves every place of the region to its corner
pub corners-least : (f : Field) (r : Region) → f.width ≤ 1 → f.height ≤ 1 → corners f r ≡ r
unfolding corners
corners-least f r w h =
    ap₂ (λ (x y : ℕ). record { left = r.left; top = r.top; width = x; height = y }) (span-least r.width f.width w)
    (span-least r.height f.height h)

-- ---- the tests of a region and a field

-- 10 comes first, whatever the field is
pub ten-first : {A : Type 0} (after : Outcome A) (f : Field) (r : Region) → within r ≡ false → first (position_tests f r) after ≡ refused 10 []
ten-first after f r o = first-refuses after 10 _ (ap not o)

pub both_pass : {A : Type 0} (after : Outcome A) {b : A} (f : Field) (r : Region) → first (position_tests f r) after ≡ accepted b
    → (within r ≡ true) × (takes f r ≡ true) × (after ≡ accepted b)
both_pass after f r e =
    let p = all_pass after (position_tests f r) e in
    (not-false _ p.0.0, not-false _ p.0.1.0, p.1)

pub pass_both : {A : Type 0} (after : Outcome A) (f : Field) (r : Region) → within r ≡ true → takes f r ≡ true
    → first (position_tests f r) after ≡ after
pass_both after f r i t = first_passes after 10 _ (ap not i) ∙ first_passes after 16 [] (ap not t) ∙ first-none after

-- a judged region, asked for the corner of the field
pub placed : (f : Field) (r : Region) (x y : ℕ) (judged : Result Unit Refusal) → of_judgement judged ≡ first (position_tests f r) (accepted tt)
    → (u : Unit) → judged ≡ Ok u → corner_outcome (corners f r) x y ≡ position_outcome f r x y
placed f r x y judged is u was =
    let p = both_pass (accepted tt) f r (sym is ∙ ap of_judgement was) in
    first_passes _ 10 [] (ap not (corners-within f r p.0 p.1)) ∙ first-none _ ∙ sym (pass_both _ f r p.0 p.1)

-- whether both pass
pub accepts : (f : Field) (r : Region) (judged : Result Unit Refusal) → of_judgement judged ≡ first (position_tests f r) (accepted tt)
    → is_ok judged ≡ (within r && takes f r)
accepts f r judged is = go judged is
  where
    go : (j : Result Unit Refusal) → of_judgement j ≡ first (position_tests f r) (accepted tt) → is_ok j ≡ (within r && takes f r)
    go (Ok u) e = let p = both_pass (accepted tt) f r (sym e) in sym (ap₂ (λ (s t : Bool). s && t) p.0 p.1)
    go (Err why) e = sym (split (within r) refl (takes f r) refl)
      where
        split : (s : Bool) → within r ≡ s → (t : Bool) → takes f r ≡ t → (within r && takes f r) ≡ false
        split true i true k = absurd (accepted-refused (sym (pass_both (accepted tt) f r i k) ∙ sym e))
        split true i false k = ap₂ (λ (s t : Bool). s && t) i k
        split false i t k = ap (λ (s : Bool). s && takes f r) i

-- a field of 0 or 1 is never too large: the region's limits decide alone
pub tests-least : {A : Type 0} (after : Outcome A) (f : Field) (r : Region) → f.width ≤ 1 → f.height ≤ 1
    → first (position_tests f r) after ≡ first (outside r ∷ []) after
tests-least after f r w h = go (within r) refl
  where
    go : (b : Bool) → within r ≡ b → first (position_tests f r) after ≡ first (outside r ∷ []) after
    go false o = ten-first after f r o ∙ sym (first-refuses after 10 [] (ap not o))
    go true i = pass_both after f r i (takes-least f r i w h) ∙ sym (first_passes after 10 [] (ap not i) ∙ first-none after)
