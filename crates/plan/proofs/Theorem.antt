-- The one term for specs/Theorem: the digits of a product, of what the flips add, and of the shift, at base two. Assumes nothing.
use mathlib.Core.Path.{◌≡◌, ap, ap₂, ◌∙◌}
use mathlib.Core.List.{List}
use Prim.Native.Nat.{ℕ, zero, suc, ◌+◌, ◌-◌, ◌*◌, ◌%◌, ◌^◌, ◌≤◌, ◌<◌}
use native.Mathlib.Omega.{arith}
use native.Mathlib.Decide.{dec_lt}
use lib.ListN.{length}
use Rattle.digits.specs.Digits.{digit, plus}
use Rattle.digits.proofs.Arithmetic.{digit-plus}
use Rattle.digits.proofs.Two.{one_lt_two}
use Rattle.linear.specs.Matrix.{sum}
use Rattle.net.specs.Generators.{Valid, entry, product}
use Rattle.net.specs.Sequence.{top}
use Rattle.net.specs.Scrambling.{plain, shifted}
use Rattle.net.proofs.Scrambling.{top-none, top-suc}
use Rattle.net.proofs.Interval.{plain_fits}
use Rattle.net.proofs.Theorem as net
use Rattle.flips.specs.Flips.{flip_at, flipped, NoneSet}
use Rattle.flips.specs.Scramble.{scramble_word}
use Rattle.flips.specs.Load.{no_flips}
use Rattle.flips.proofs.FlipBits.{bit, at, deep}
use Rattle.flips.proofs.Theorem as flips
use Rattle.plan.specs.declared.pair.Plan.{Plan}
use Rattle.plan.specs.declared.points.Shift.{Shift}
use Rattle.plan.specs.Pair.{generators, only_shift, sequence}
use Rattle.plan.specs.Theorem.{MatrixEquation, product_bit, leading_bits, FlippedEquation, Theorems}

module _ (C : List ℕ) (i : ℕ) where
  -- row r is digit 32 - suc r for `entry` and digit 31 - r for the statement
  row_is : (r : ℕ) → r < 32 → digit 2 (31 - r) (product 2 C i) ≡ product_bit C i r
  row_is r h =
      let e : 31 - r ≡ 32 - suc r = omega arith in
      ap (λ (k : ℕ). digit 2 k (product 2 C i)) e ∙ ((net.theorems).matrix_product one_lt_two 32 C).rows r i h

  leading_is : product 2 C i < 2 ^ 32 → (t : ℕ) → t ≤ 32 → top 2 32 t (product 2 C i) ≡ leading_bits C i t
  unfolding leading_bits
  leading_is small zero h = top-none one_lt_two 32 (product 2 C i) small
  leading_is small (suc t) h =
      let e : 32 - suc t ≡ 31 - t = omega arith in
      top-suc one_lt_two 32 t (product 2 C i) h
      ∙ ap₂ (λ (p d : ℕ). p * 2 + d) (leading_is small t (omega arith))
      (ap (λ (k : ℕ). digit 2 k (product 2 C i)) e ∙ row_is t (omega arith))

  -- the digit of what follows the product
  scrambled-digit : (flips : List ℕ) (s r : ℕ) → r < 32 → digit 2 (31 - r) (scramble_word flips s (product 2 C i))
      ≡ (product_bit C i r + flip_at flips r (top 2 32 r (product 2 C i)) + digit 2 (31 - r) s) % 2
  scrambled-digit flips s r h =
      let w = product 2 C i in
      let f = flip_at flips r (top 2 32 r w) in
      digit-plus one_lt_two (flipped flips w) s (31 - r)
      ∙ ap (λ (d : ℕ). (d + digit 2 (31 - r) s) % 2) (bit flips r w h ∙ ap (λ (d : ℕ). (d + f) % 2) (row_is r h))
      ∙ once (product_bit C i r + f) (digit 2 (31 - r) s)
    where
      once : (x y : ℕ) → (x % 2 + y) % 2 ≡ (x + y) % 2
      once x y = omega arith

  flipped_equation : product 2 C i < 2 ^ 32 → (flips : List ℕ) (s : ℕ) → FlippedEquation C flips s i (scramble_word flips s (product 2 C i))
  flipped_equation small flips s r h =
      scrambled-digit flips s r h
      ∙ ap (λ (p : ℕ). (product_bit C i r + flip_at flips r p + digit 2 (31 - r) s) % 2) (leading_is small r (omega arith))

  -- no flips add nothing
  none-at : (flips : List ℕ) → NoneSet flips → (t p : ℕ) → Dec (t < 8) → flip_at flips t p ≡ 0
  none-at flips none t p (yes h) = at flips t p h ∙ none (2 ^ t - 1 + p)
  none-at flips none t p (no h) = deep flips t p (omega arith)

  equation : (flips : List ℕ) → NoneSet flips → (s : ℕ) → MatrixEquation C s i (scramble_word flips s (product 2 C i))
  equation flips none s r h =
      scrambled-digit flips s r h
      ∙ plainly (sum (length C) (λ c. entry 2 32 C r c * digit 2 c i)) (digit 2 (31 - r) s) (none-at flips none r _ (dec_lt r 8))
    where
      plainly : (x y : ℕ) {f : ℕ} → f ≡ 0 → (x % 2 + f + y) % 2 ≡ (x + y) % 2
      plainly x y e = omega (arith, e)

unflipped : {P : Plan} → Valid (generators P) → (s : Shift) → sequence P (only_shift s) ≡ shifted (generators P) s.x s.y
unflipped {P} valid s = λ i. record {
  b = 2;
  R = 32;
  x = λ n. ap (λ (w : ℕ). plus 2 w s.x) (leaves ((plain (generators P)).x n) ((plain_fits valid).x n)) i;
  y = λ n. ap (λ (w : ℕ). plus 2 w s.y) (leaves ((plain (generators P)).y n) ((plain_fits valid).y n)) i;
}
  where
    leaves : (w : ℕ) → w < 2 ^ 32 → flipped no_flips.x w ≡ w
    leaves = ((flips.theorems).flipping no_flips.x).none (flips.theorems).none_set.0

pub theorems : Theorems
theorems = record {
  flipped_x = λ {P} valid s i. flipped_equation P.x i ((plain_fits valid).x i) s.flips.x s.shift.x;
  flipped_y = λ {P} valid s i. flipped_equation P.y i ((plain_fits valid).y i) s.flips.y s.shift.y;
  x = λ P s i. equation P.x i no_flips.x (flips.theorems).none_set.0 s.x;
  y = λ P s i. equation P.y i no_flips.y (flips.theorems).none_set.1 s.y;
  unflipped = unflipped;
}
