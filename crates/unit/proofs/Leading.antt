-- The leading digit of a number of L digits: which numbers have it where, the number moved up to it, and the 24 digits from it on. Assumes nothing.
use mathlib.Core.Path.{◌≡◌, sym, ap, subst}
use mathlib.Core.Logic.{◌↔◌}
use Prim.Native.Nat.{ℕ, ◌+◌, ◌-◌, ◌*◌, ◌/◌, ◌^◌, ◌≤◌, ◌<◌}
use native.Mathlib.Nat.{le_trans, le_of_eq, mul-le-mul_right, le-div_iff_mul-le}
use native.Mathlib.Omega.{arith}
use lib.Count.{count_leading_zeros, leading_top, leading_length, leading_unique}
use lib.Pow.{pow_pos, shl_lt, shr_lt}
use Rattle.unit.specs.Quotient.{leading_digits}
use Rattle.unit.proofs.Powers.{powers}

-- moved up to its leading digit a number still has L digits, also where it is 0
pub moved_lt : (L v : ℕ) → v < 2 ^ L → v * 2 ^ count_leading_zeros L v < 2 ^ L
moved_lt L v below =
    let z = count_leading_zeros L v in
    let length = leading_length L v below in
    let all : length.0 + z ≡ L = omega (arith, length.1) in
    subst (λ (k : ℕ). v * 2 ^ z < 2 ^ k) all (shl_lt length.0 z length.2)

-- the 24 digits from the leading one on
pub digits_lt : (L v : ℕ) → v < 2 ^ L → 24 ≤ L → leading_digits L v < 2 ^ 24
digits_lt L v below least =
    let all : L ≡ 24 + (L - 24) = omega arith in
    shr_lt 24 (L - 24) (subst (λ (k : ℕ). v * 2 ^ count_leading_zeros L v < 2 ^ k) all (moved_lt L v below))

-- which numbers of L digits have z leading zeros
pub zeros_iff : (L z v : ℕ) → z ≤ L → v < 2 ^ L → (count_leading_zeros L v ≡ z) ↔ ((2 ^ (L - z) / 2 ≤ v) × (v < 2 ^ (L - z)))
zeros_iff L z v small below = (ends, λ within. zeros within.0 within.1)
  where
    halved : (n : ℕ) → n ≤ 2 * v + 1 → n / 2 ≤ v
    halved n h = omega arith

    doubled : (n : ℕ) → n / 2 ≤ v → n ≤ 2 * v + 1
    doubled n h = omega arith

    ends : count_leading_zeros L v ≡ z → (2 ^ (L - z) / 2 ≤ v) × (v < 2 ^ (L - z))
    ends e =
        let length = leading_length L v below in
        let m : length.0 ≡ L - z = omega (arith, e, length.1) in
        subst (λ (k : ℕ). (2 ^ k / 2 ≤ v) × (v < 2 ^ k)) m (halved (2 ^ length.0) length.3, length.2)

    zeros : 2 ^ (L - z) / 2 ≤ v → v < 2 ^ (L - z) → count_leading_zeros L v ≡ z
    zeros least most = sym (leading_unique L v z (L - z) (omega arith) most (doubled (2 ^ (L - z)) least))

module _ (L v : ℕ) (positive : 0 < v) (below : v < 2 ^ L) where
  pub zeros_lt : count_leading_zeros L v < L
  zeros_lt = let top = leading_top L v positive below in omega (arith, top.1)

  -- the weight of the leading digit
  pub weight_le : 2 ^ (L - 1 - count_leading_zeros L v) ≤ v
  weight_le =
      let top = leading_top L v positive below in
      let place : L - 1 - count_leading_zeros L v ≡ top.0 = omega (arith, top.1) in
      le_trans (le_of_eq (ap (λ (j : ℕ). 2 ^ j) place)) top.2

  -- moved up so, its highest digit is not 0
  moved_ge : 2 ^ (L - 1) ≤ v * 2 ^ count_leading_zeros L v
  moved_ge =
      let z = count_leading_zeros L v in
      let few = zeros_lt in
      let all : L - 1 - z + z ≡ L - 1 = omega arith in
      le_trans (le_of_eq (sym (powers (L - 1 - z) z (L - 1) all))) (mul-le-mul_right (2 ^ z) weight_le)

  -- the leading one is the highest of the 24 digits
  pub digits_ge : 24 ≤ L → 2 ^ 23 ≤ leading_digits L v
  digits_ge least =
      let all : 23 + (L - 24) ≡ L - 1 = omega arith in
      (le-div_iff_mul-le (pow_pos (L - 24))).1 (le_trans (le_of_eq (powers 23 (L - 24) (L - 1) all)) moved_ge)
