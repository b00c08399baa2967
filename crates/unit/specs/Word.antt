-- The unit numbers of a word.
use Rattle.std.specs.Prelude.{ℕ, Float}
use Rattle.unit.specs.declared.numbers.Precision.{Precision}
use Rattle.unit.specs.declared.numbers.Precision.TheVariants as precision
use Rattle.unit.specs.declared.numbers.Unit.{Unit as UnitNumber}
use Rattle.unit.specs.declared.numbers.Unit.TheVariants as unit
use Rattle.unit.specs.Quotient.{nearest_double, lower_bits, lower_single}

-- the exact value of the word w is numerator w / 2 ^ width, a number of `width` binary digits after the point; all that is said of unit
-- numbers takes it from here
abbrev pub numerator : ℕ → ℕ
numerator w = w

abbrev pub width : ℕ
width = 32

-- that value as a double
abbrev pub double : ℕ → Float
double w = nearest_double width (numerator w)

-- the bits of the largest single not above it, and that single
abbrev pub single_bits : ℕ → ℕ
single_bits w = lower_bits width (numerator w)

abbrev pub single : ℕ → Float
single w = lower_single width (numerator w)

-- the one or the other, and which it is (01: a unit coordinate)
abbrev pub unit_number : ℕ → Precision → UnitNumber
unit_number w precision.Single = unit.Single (single w)
unit_number w precision.Double = unit.Double (double w)
