-- A number v / 2 ^ L, for v below 2 ^ L, as a double and as a single. The kit's `fin s m e` is the number m * 2 ^ e, negative where s is true.
use Rattle.std.specs.Prelude.{false, cond, ℕ, ◌+◌, ◌-◌, ◌*◌, ◌/◌, ◌^◌, eqb, Float}
use Rattle.std.specs.Int.Count.{count_leading_zeros}
use Rattle.std.specs.Float.{binary32, binary64}
use Rattle.std.specs.Float.Ieee.{round, of_bits}

-- the double nearest to v / 2 ^ L; where L is at most 53 it is that number itself (Theorem: `exact`)
abbrev pub nearest_double : ℕ → ℕ → Float
nearest_double L v = round binary64 false v (2 ^ L)

-- the 24 digits of v from the leading one on, which follows z leading zeros among L digits; the digits after them are cut off
abbrev pub leading_digits : ℕ → ℕ → ℕ
leading_digits L v = v * 2 ^ count_leading_zeros L v / 2 ^ (L - 24)

-- The bits of the largest single not above v / 2 ^ L (Theorem: `largest`): 0 for 0, and else these digits, added to an exponent field of
-- 125 - z. The leading one, which a single does not store, makes the field 126 - z.
abbrev pub lower_bits : ℕ → ℕ → ℕ
lower_bits L v = cond (eqb v 0) 0 ((125 - count_leading_zeros L v) * 2 ^ 23 + leading_digits L v)

abbrev pub lower_single : ℕ → ℕ → Float
lower_single L v = of_bits binary32 (lower_bits L v)
