-- `double`: the divisor is 2 ^ 32 as a double.
use lib.Ieee.{of_bits}
use Rattle.unit.proofs.Doubles.{double_is}
use Rattle.unit.proofs.Numerator.{wide_enough, numerator_lt}
use Rattle.unit.proofs.numbers.double.Goals as goal

pub returns : goal.returns
unfolding of_bits
returns c = double_is wide_enough.at_most (numerator_lt c.args.word c.ranges.word.fits)
