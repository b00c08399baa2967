-- Unit numbers that the definitions compute. Assumes nothing.
use mathlib.Core.Path.{◌≡◌, refl}
use mathlib.Core.Bool.{false}
use lib.Count.{count_leading_zeros}
use lib.IntN.{negsuc}
use lib.Ieee.{fin, round, odd}
use Rattle.unit.specs.Quotient.{lower_bits}
use Rattle.unit.specs.Word.{double, single_bits}

-- 01's wrong turn: rounded to nearest this would be one half, 0x3F000000
below_half : single_bits 0x7FFFFFFF ≡ 0x3EFFFFFF
unfolding count_leading_zeros
below_half = refl

half : single_bits 0x80000000 ≡ 0x3F000000
unfolding count_leading_zeros
half = refl

half_double : double 0x80000000 ≡ fin false 1 (negsuc 0)
unfolding round odd
half_double = refl

-- C-17: the words 0 and 1, with the numerator 2 * w + 1 and 33 binary digits
odd_zero : lower_bits 33 1 ≡ 0x2F000000
unfolding count_leading_zeros
odd_zero = refl

odd_one : lower_bits 33 3 ≡ 0x2FC00000
unfolding count_leading_zeros
odd_one = refl
