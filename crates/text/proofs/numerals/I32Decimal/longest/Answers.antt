-- `longest` of a signed number: it has at most ten digits and a sign.
use native.Mathlib.Omega.{arith}
use Rattle.text.proofs.Numbers.{signed_decimal_longest}
use Rattle.text.proofs.numerals.I32Decimal.longest.Goals as goal

pub returns-clause-fits : goal.returns-clause-fits
returns-clause-fits c = λ z. omega (arith, signed_decimal_longest z)
