-- `width` of a signed number: the digits of the magnitude are few.
use native.Mathlib.Omega.{arith}
use Rattle.text.proofs.Numbers.{decimal_longest}
use Rattle.text.proofs.numerals.I32Decimal.width.Goals as goal

pub overflow_add-result : goal.overflow_add-result
overflow_add-result c = record { fits = omega (arith, c.digit_count-digits.ensures, decimal_longest c.unsigned_abs.result) }
