-- What the tests of flips come to. Assumes nothing.
use mathlib.Core.Path.{◌≡◌, refl, sym, ap, ◌∙◌}
use mathlib.Core.Bool.{Bool, true, false, not, ◌||◌}
use mathlib.Core.Logic.{◌≢◌}
use mathlib.Core.List.{List, [], ◌∷◌}
use Prim.Native.Nat.{ℕ, ◌≤◌, ◌<◌}
use native.Mathlib.Omega.{arith}
use borrow.Author.Tests.{eq-eqb, ne_eqb}
use lib.Dec.{eqb}
use lib.ListN.{length, get_or}
use Rattle.refusal.specs.Outcome.{Outcome, accepted, refused, first}
use Rattle.refusal.proofs.First.{first-none, first-refuses, first_passes}
use Rattle.flips.specs.Flips.{flip_bit}
use Rattle.flips.specs.Load.{flips_of, unused_set, flips_tests}

or_left : {a : Bool} (b : Bool) → a ≡ true → (a || b) ≡ true
or_left b e = rw e refl

or_right : (a : Bool) {b : Bool} → b ≡ true → (a || b) ≡ true
or_right true e = refl
or_right false e = e

or_neither : {a b : Bool} → a ≡ false → b ≡ false → (a || b) ≡ false
or_neither e f = rw (e, f) refl

-- flip bit 255 is the top bit of byte 31
bit_set : (flips : List ℕ) → 128 ≤ get_or flips 31 0 → get_or flips 31 0 < 256 → flip_bit flips 255 ≡ 1
unfolding flip_bit
bit_set flips h l = omega arith

bit_clear : (flips : List ℕ) → get_or flips 31 0 < 128 → flip_bit flips 255 ≡ 0
unfolding flip_bit
bit_clear flips h = omega arith

module _ {A : Type 0} (x y : List ℕ) (after : Outcome A) where
  abbrev tested : Outcome A
  tested = first (flips_tests (flips_of x y)) after

  pub refuses_x : length x ≢ 32 → tested ≡ refused 17 []
  refuses_x ne = first-refuses after 17 _ (or_left (not (eqb (length y) 32)) (ap not (ne_eqb (length x) 32 ne)))

  pub refuses_y : length y ≢ 32 → tested ≡ refused 17 []
  refuses_y ne = first-refuses after 17 _ (or_right (not (eqb (length x) 32)) (ap not (ne_eqb (length y) 32 ne)))

  module _ (ex : length x ≡ 32) (ey : length y ≡ 32) where
    right : tested ≡ first (unused_set (flips_of x y) ∷ []) after
    right = first_passes after 17 _ (or_neither (ap not (eq-eqb (length x) 32 ex)) (ap not (eq-eqb (length y) 32 ey)))

    pub refuses_bit_x : flip_bit x 255 ≡ 1 → tested ≡ refused 18 []
    refuses_bit_x e = right ∙ first-refuses after 18 [] (or_left (eqb (flip_bit y 255) 1) (eq-eqb (flip_bit x 255) 1 e))

    pub refuses_bit_y : flip_bit y 255 ≡ 1 → tested ≡ refused 18 []
    refuses_bit_y e = right ∙ first-refuses after 18 [] (or_right (eqb (flip_bit x 255) 1) (eq-eqb (flip_bit y 255) 1 e))

    pub accepts : flip_bit x 255 ≡ 0 → flip_bit y 255 ≡ 0 → tested ≡ after
    accepts e f =
        right ∙ first_passes after 18 [] (or_neither (clear (flip_bit x 255) e) (clear (flip_bit y 255) f)) ∙ first-none after
      where
        clear : (n : ℕ) → n ≡ 0 → eqb n 1 ≡ false
        clear n z = ne_eqb n 1 (λ o. omega arith)

    -- as the code sees bit 255
    pub refuses_byte_x : 128 ≤ get_or x 31 0 → get_or x 31 0 < 256 → tested ≡ refused 18 []
    refuses_byte_x h l = refuses_bit_x (bit_set x h l)

    pub refuses_byte_y : 128 ≤ get_or y 31 0 → get_or y 31 0 < 256 → tested ≡ refused 18 []
    refuses_byte_y h l = refuses_bit_y (bit_set y h l)

    pub accepts_bytes : get_or x 31 0 < 128 → get_or y 31 0 < 128 → tested ≡ after
    accepts_bytes h l = accepts (bit_clear x h) (bit_clear y l)

-- all that loading needs of them
pub ruleset judged = (refuses_x, refuses_y, refuses_byte_x, refuses_byte_y, accepts_bytes)
