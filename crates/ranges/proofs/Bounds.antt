-- How many numbers of a range pass a test, where of each block of B numbers exactly one does. The idea: of the numbers below x at least
-- x / B pass, one for each block that ends by then, and at most the ceiling, one for each block that begins before. A range is the
-- difference of two of these. Assumes nothing.
use mathlib.Core.Path.{◌≡◌, ap, ap₂, ◌∙◌}
use mathlib.Core.Bool.{Bool}
use Prim.Native.Nat.{ℕ, zero, suc, ◌+◌, ◌-◌, ◌*◌, ◌/◌, ◌≤◌, ◌<◌}
use native.Mathlib.Nat.{zero-add, zero-mul, mul-div_cancel, div-mul-le_self, lt-div-mul-add, div-lt_iff_lt-mul, le-div_iff_mul-le}
use native.Mathlib.Numerals.{add-one}
use native.Mathlib.Omega.{arith}
use Rattle.ranges.specs.Range.{range}
use Rattle.ranges.specs.Count.{count}
use Rattle.ranges.specs.Bounds.{ceiling, IsCeiling, OneInEach, CountBounds}
use Rattle.ranges.proofs.Count.{count_add}

pub ceiling_is : (n d : ℕ) → 0 < d → IsCeiling n d (ceiling n d)
unfolding ceiling
ceiling_is n d pos = record {
  reaches = let up = lt-div-mul-add {a = n + (d - 1)} pos in omega arith;
  least = λ p h.
      let low : n + (d - 1) < suc p * d = omega arith in
      let q = (div-lt_iff_lt-mul {x = n + (d - 1)} {y = suc p} pos).1 low in
      omega arith;
}

-- ---- quotients, where B is not 0

module _ {B : ℕ} (pos : 0 < B) where
  -- a range touches no more blocks than C-15's most, wherever it begins
  touched_le : (s n : ℕ) → 1 ≤ n → ceiling (s + n) B ≤ s / B + (ceiling (n - 1) B + 1)
  touched_le s n some =
      let q : ℕ = s / B in
      let e : ℕ = ceiling (n - 1) B in
      let begun = lt-div-mul-add {a = s} pos in
      let reached = (ceiling_is (n - 1) B pos).reaches in
      (ceiling_is (s + n) B pos).least (q + (e + 1)) (omega arith)

  -- and has no fewer whole blocks than C-15's least
  whole_ge : (s n : ℕ) → (n + 1) / B + ceiling s B ≤ (s + n) / B + 1
  whole_ge s n =
      let f : ℕ = (n + 1) / B in
      let u : ℕ = (s + n) / B in
      let ends = lt-div-mul-add {a = s + n} pos in
      let full = div-mul-le_self (n + 1) B in
      let wide : n + 1 < (u + 2) * B = omega arith in
      let few : f < u + 2 = (div-lt_iff_lt-mul {x = n + 1} {y = u + 2} pos).1 wide in
      let p : ℕ = u + 1 - f in
      let parts : p + f ≡ u + 1 = omega arith in
      let whole = ap (λ (x : ℕ). x * B) parts in
      let up : ceiling s B ≤ p = (ceiling_is s B pos).least p (omega (arith, whole)) in
      omega arith

-- ---- counts

module _ (test : ℕ → Bool) where
  -- how many of the numbers below x pass
  unfoldable below : ℕ → ℕ
  below x = count test (range 0 x)

  below_add : (x n : ℕ) → below (x + n) ≡ below x + count test (range x n)
  unfolding below
  below_add x n = count_add test 0 x n ∙ ap (λ (s : ℕ). count test (range 0 x) + count test (range s n)) (zero-add x)

  below_grows : (x y : ℕ) → x ≤ y → below x ≤ below y
  below_grows x y l = let e : y ≡ x + (y - x) = omega arith in omega (arith, ap below e, below_add x (y - x))

  module _ (B : ℕ) (pos : 0 < B) (each : OneInEach test B) where
    -- the first k blocks have k
    below_blocks : (k : ℕ) → below (k * B) ≡ k
    unfolding below count range
    below_blocks zero = ap below (zero-mul B)
    below_blocks (suc k) =
        let e : suc k * B ≡ k * B + B = omega arith in
        ap below e ∙ below_add (k * B) B ∙ ap₂ (λ (x y : ℕ). x + y) (below_blocks k) (each k) ∙ add-one k

    below-least : (x : ℕ) → x / B ≤ below x
    below-least x = omega (arith, below_grows (x / B * B) x (div-mul-le_self x B), below_blocks (x / B))

    below-most : (x : ℕ) → below x ≤ ceiling x B
    below-most x = omega (arith, below_grows x (ceiling x B * B) (ceiling_is x B pos).reaches, below_blocks (ceiling x B))

    bounded : (s n : ℕ) → 1 ≤ n → CountBounds s n B (count test (range s n))
    bounded s n some =
        let split = below_add s n in
        let before-least = below-least s in
        let before-most = below-most s in
        let least = below-least (s + n) in
        let most = below-most (s + n) in
        record {
          most = omega (arith, touched_le pos s n some);
          least = omega (arith, whole_ge pos s n);
          touched = omega arith;
          whole = omega arith;
        }

-- that B is not 0 follows, since a block of 0 numbers has none that passes
pub count_bounds : (test : ℕ → Bool) (B : ℕ) → OneInEach test B → (start n : ℕ) → 1 ≤ n → CountBounds start n B (count test (range start n))
unfolding count range
count_bounds test zero each start n some = absurd (omega (arith, each 0))
count_bounds test (suc B) each start n some = bounded test (suc B) (omega arith) each start n some

-- ---- what the bounds come to

pub from_block : {B : ℕ} → 0 < B → (k n many : ℕ) → CountBounds (k * B) n B many → (n / B ≤ many) × (many ≤ ceiling n B)
from_block {B} pos k n many bounds =
    let first : k * B / B ≡ k = mul-div_cancel k pos in
    let up : ceiling (k * B) B ≤ k = (ceiling_is (k * B) B pos).least k (omega arith) in
    let whole = bounds.whole in
    let touched = bounds.touched in
    let inner = div-mul-le_self n B in
    let low : k + n / B ≤ (k * B + n) / B = (le-div_iff_mul-le {x = k + n / B} {y = k * B + n} pos).1 (omega arith) in
    let reached = (ceiling_is n B pos).reaches in
    let high : ceiling (k * B + n) B ≤ k + ceiling n B = (ceiling_is (k * B + n) B pos).least (k + ceiling n B) (omega arith) in
    (omega arith, omega arith)

pub blocks_of_one : (n : ℕ) → 1 ≤ n → ((n + 1) / 1 - 1 ≡ n) × (ceiling (n - 1) 1 + 1 ≡ n)
unfolding ceiling
blocks_of_one n some = (omega arith, omega arith)
