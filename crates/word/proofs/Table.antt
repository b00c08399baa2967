-- The reversal of a number a few digits at a time, through a table of the reversals of so many digits. Assumes nothing.
use mathlib.Core.Path.{◌≡◌, sym, ap, ap₂, ◌∙◌}
use mathlib.Core.List.{List, map}
use Prim.Native.Nat.{ℕ, ◌+◌, ◌*◌, ◌/◌, ◌%◌, ◌^◌, ◌≤◌, ◌<◌}
use native.Mathlib.Nat.{mod-lt, le_refl, lt_of_lt_of_le, zero-add, div-one, pow-le-pow_right, pow-zero, div-div-eq-div-mul}
use native.Mathlib.Omega.{arith}
use lib.ListN.{get_or}
use lib.Pow.{pow-add}
use Rattle.ranges.specs.Range.{range}
use Rattle.ranges.proofs.Range.{getD_each}
use Rattle.ranges.proofs.Below.{below_at, below-map}
use Rattle.digits.specs.Digits.{reversed}
use Rattle.digits.proofs.Digit.{pow_pos}
use Rattle.digits.proofs.Reversed.{reversed-parts, reversed-mod, reversed_lt}

-- the m lowest digits of i reversed, and the digits above them
pub record Split (b m i rest sum : ℕ) : Type 0 where
  pub rest_is : rest ≡ i / b ^ m
  pub sum_is : sum ≡ reversed b m i

module _ {b : ℕ} (big : 1 < b) where
  pub split_none : (i : ℕ) → Split b 0 i i 0
  split_none i = record {
    rest_is = sym (ap (λ (x : ℕ). i / x) (pow-zero b) ∙ div-one i);
    sum_is = omega (arith, rw pow-zero at (reversed_lt big 0 i));
  }

  module _ (n : ℕ) {table : List ℕ} (right : table ≡ map (reversed b n) (range 0 (b ^ n))) where
    -- the lowest n digits of a number, by the table
    table_at : (i : ℕ) → get_or table (i % b ^ n) 0 ≡ reversed b n i
    table_at i =
        ap (λ (l : List ℕ). get_or l (i % b ^ n) 0) right ∙ getD_each (reversed b n) 0 (b ^ n) (i % b ^ n) 0 (mod-lt i (pow_pos big n))
        ∙ ap (reversed b n) (zero-add (i % b ^ n)) ∙ reversed-mod big n n i (le_refl n)

    pub table_lt : (j : ℕ) → get_or table j 0 < b ^ n
    table_lt j = rw right (below_at (b ^ n) (map (reversed b n) (range 0 (b ^ n))) j (pow_pos big n)
        (below-map (b ^ n) (reversed b n) (range 0 (b ^ n)) (reversed_lt big n)))

    pub split_more : {m i rest sum : ℕ} → Split b m i rest sum → Split b (m + n) i (rest / b ^ n) (sum * b ^ n + get_or table (rest % b ^ n) 0)
    split_more {m} {i} {rest} {sum} s = record {
      rest_is = ap (λ (x : ℕ). x / b ^ n) s.rest_is ∙ div-div-eq-div-mul i (b ^ m) (b ^ n) ∙ ap (λ (x : ℕ). i / x) (sym (pow-add b m n));
      sum_is = ap₂ (λ (x y : ℕ). x * b ^ n + y) s.sum_is (table_at rest ∙ ap (reversed b n) s.rest_is) ∙ sym (reversed-parts big m n i);
    }

  pub sum_lt : {m i rest sum : ℕ} (n : ℕ) → Split b m i rest sum → m ≤ n → sum < b ^ n
  sum_lt {m} {i} n s h = rw s.sum_is (lt_of_lt_of_le (reversed_lt big m i) (pow-le-pow_right (omega arith) h))
