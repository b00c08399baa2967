-- `single_bits`: no digit is shifted out, so the stored digits are those of the definition; field and digits together are the bits.
use Prim.Native.Nat.{◌^◌}
use native.Mathlib.Nat.{lt_of_lt_of_le, mod-eq_of_lt}
use native.Mathlib.Omega.{arith}
use lib.Dec.{lit≤}
use lib.Count.{leading_le}
use Rattle.unit.proofs.Leading.{moved_lt}
use Rattle.unit.proofs.Table.{field_le}
use Rattle.unit.proofs.Parts.{together}
use Rattle.unit.proofs.numbers.single_bits.Goals as goal

pub overflow_cast-moved-2 : goal.overflow_cast-moved-2
overflow_cast-moved-2 c = let few = leading_le 32 c.args.word in record { fits = omega arith }

pub overflow_shl-moved : goal.overflow_shl-moved
overflow_shl-moved c = let few = leading_le 32 c.args.word in omega arith

pub overflow_cast-stored : goal.overflow_cast-stored
overflow_cast-stored c = let moved = moved_lt 32 c.args.word c.ranges.word.fits in record { fits = omega arith }

pub exponent_field-requires : goal.exponent_field-requires
exponent_field-requires c = leading_le 32 c.args.word

pub overflow_mul-result : goal.overflow_mul-result
overflow_mul-result c = let small = field_le (leading_le 32 c.args.word) c.exponent_field.ensures in record { fits = omega arith }

pub overflow_add-result : goal.overflow_add-result
overflow_add-result c = let small = field_le (leading_le 32 c.args.word) c.exponent_field.ensures in record { fits = omega arith }

pub returns : goal.returns
returns c =
    let w = c.args.word in
    let fits = c.ranges.word.fits in
    simp (c.exponent_field.ensures, mod-eq_of_lt {m = 2 ^ 64} (lt_of_lt_of_le (moved_lt 32 w fits) (lit≤ tt)), together w fits)
