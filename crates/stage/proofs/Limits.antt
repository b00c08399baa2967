-- The limits of a region, one by one, and edges and positions as the machine reads them back.
-- Assumes nothing.
use mathlib.Core.Path.{◌≡◌, ap, ◌∙◌, subst}
use mathlib.Core.Bool.{Bool, true, not}
use Prim.Native.Nat.{ℕ, ◌≤◌, ◌<◌}
use borrow.Author.Tests.{ltb-false, le-ltb, not-true}
use lib.Dec.{ltb}
use lib.IntN.{ℤ}
use mir.Syntax.{w32}
use mir.Val.{SFits, of_z, to_z}
use mir.ValLaws.{to_z-of_z}
use Rattle.ranges.proofs.Tests.{both_hold}
use Rattle.stage.specs.declared.regions.Region.{Region}
use Rattle.stage.specs.Position.{edge_within, extent_within, largest_extent}
use Rattle.stage.specs.Region.{within}

-- a test of a signed number, from the test of what is read back from its bits
pub read_back : (f : ℤ → Bool) (b : Bool) (e : ℤ) → SFits w32 e → f (to_z w32 (of_z w32 e)) ≡ b → f e ≡ b
read_back f b e h p = subst (λ (z : ℤ). f z ≡ b) (to_z-of_z w32 e h) p

-- what the machine reads of an edge is that edge
pub edge_read : (e : ℤ) → SFits w32 e → edge_within e ≡ true → edge_within (to_z w32 (of_z w32 e)) ≡ true
edge_read e f p = ap edge_within (to_z-of_z w32 e f) ∙ p

extent_some : (x : ℕ) → extent_within x ≡ true → 0 < x
extent_some x e = ltb-false x 1 (not-true _ (both_hold (not (ltb x 1)) (not (ltb largest_extent x)) e).0)

extent_most : (x : ℕ) → extent_within x ≡ true → x ≤ largest_extent
extent_most x e = ltb-false largest_extent x (not-true _ (both_hold (not (ltb x 1)) (not (ltb largest_extent x)) e).1)

pub record Within (r : Region) : Type 0 where
  pub left : edge_within r.left ≡ true
  pub top : edge_within r.top ≡ true
  pub some-width : 0 < r.width
  pub width : r.width ≤ largest_extent
  pub some_height : 0 < r.height
  pub height : r.height ≤ largest_extent

pub within_has : (r : Region) → within r ≡ true → Within r
unfolding within
within_has r e =
    let first = both_hold _ _ e in
    let second = both_hold _ _ first.0 in
    let third = both_hold _ _ second.0 in
    record {
      left = third.0;
      top = third.1;
      some-width = extent_some r.width second.1;
      width = extent_most r.width second.1;
      some_height = extent_some r.height first.1;
      height = extent_most r.height first.1;
    }

extent_is : (x : ℕ) → 0 < x → x ≤ largest_extent → extent_within x ≡ true
extent_is x some most = simp (le-ltb x 1 some, le-ltb largest_extent x most)

-- and back
pub within-from : (r : Region) → Within r → within r ≡ true
unfolding within
within-from r w =
    let wide = extent_is r.width w.some-width w.width in
    let high = extent_is r.height w.some_height w.height in
    simp (w.left, w.top, wide, high)
