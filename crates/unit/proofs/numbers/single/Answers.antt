-- `single`: the bits are no NaN's.
use mathlib.Core.Path.{sym, ap, subst}
use mathlib.Core.Bool.{not}
use Prim.Native.Nat.{ℕ}
use lib.Dec.{T}
use lib.Ieee.{binary32, nan_bits, of_bits}
use Rattle.unit.proofs.Patterns.{not_nan}
use Rattle.unit.proofs.Numerator.{wide_enough, numerator_lt}
use Rattle.unit.proofs.numbers.single.Goals as goal

pub float_from_bits-result : goal.float_from_bits-result
float_from_bits-result c =
    let below = numerator_lt c.args.word c.ranges.word.fits in
    subst (λ (n : ℕ). T (not (nan_bits binary32 n))) (sym c.single_bits.ensures) (not_nan wide_enough.at_least below)

pub returns : goal.returns
returns c = ap (of_bits binary32) c.single_bits.ensures
