-- The double: dividing by 2 ^ L as a double rounds the exact quotient, and loses nothing. Assumes nothing.
use mathlib.Core.Path.{◌≡◌, sym, ap, ◌∙◌, subst}
use mathlib.Core.Bool.{Bool, true, false}
use Prim.Native.Nat.{ℕ, ◌+◌, ◌-◌, ◌*◌, ◌^◌, ◌≤◌, ◌<◌}
use native.Mathlib.Nat.{mul_assoc, mul-pos, lt_of_lt_of_le, le_of_lt}
use native.Mathlib.Omega.{arith}
use lib.Dec.{T, lit<, lit≤}
use lib.IntN.{pos}
use lib.Pow.{pow_pos, pow_mono, shl_lt}
use lib.Ieee.{Float, nan, inf, fin, binary64, up, down, round, div, of_int}
use lib.Ieee.Exact.{HasValue, round_exact}
use lib.Ieee.Fits.{down_pos}
use lib.Ieee.Scale.{round_same}
use lib.Ieee.Back.{round_whole}
use Rattle.unit.specs.Quotient.{nearest_double}
use Rattle.unit.proofs.Powers.{powers}

-- a whole number by 2 ^ L
divided : (L : ℕ) (x : Float) (v : ℕ) → HasValue x false v 1 → div binary64 x (fin false 1 (pos L)) ≡ nearest_double L v
unfolding div
divided L nan v value = absurd value
divided L (inf t) v value = absurd value
divided L (fin true m e) v value = absurd (no value.0)
  where
    no : true ≡ false → ⊥
    no p = subst (λ (b : Bool). T b) p tt
divided L (fin false m e) v value =
    round_same binary64 false (m * up e * 1) (1 * 2 ^ L * down e) v (2 ^ L) (mul-pos (mul-pos (lit< tt) (pow_pos L)) (down_pos e)) (pow_pos L)
    (omega (arith, ap (λ (x : ℕ). x * 2 ^ L) value.1))

pub double_is : {L v : ℕ} → L ≤ 53 → v < 2 ^ L → div binary64 (of_int binary64 (pos v)) (fin false 1 (pos L)) ≡ nearest_double L v
unfolding of_int
double_is {L} {v} most below =
    divided L (round binary64 false v 1) v (round_whole binary64 false v (le_of_lt (lt_of_lt_of_le below (pow_mono most))))

pub double-value : {L v : ℕ} → L ≤ 53 → v < 2 ^ L → HasValue (nearest_double L v) false v (2 ^ L)
double-value {L} {v} most below =
    let all : L + (1074 - L) ≡ 1074 = omega arith in
    let small : v * 2 ^ (1074 - L) < 2 ^ 1074 = subst (λ (k : ℕ). v * 2 ^ (1074 - L) < 2 ^ k) all (shl_lt L (1074 - L) below) in
    round_exact binary64 false v (2 ^ L) v (1074 - L) (pow_pos L) (lt_of_lt_of_le below (pow_mono most))
    (lt_of_lt_of_le small (lit≤ tt))
    (ap (λ (x : ℕ). v * x) (sym (powers (1074 - L) L 1074 (omega arith))) ∙ sym (mul_assoc v (2 ^ (1074 - L)) (2 ^ L)))
