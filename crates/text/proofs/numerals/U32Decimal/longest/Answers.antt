-- `longest` of a number: it has at most ten digits.
use native.Mathlib.Omega.{arith}
use Rattle.text.proofs.Numbers.{decimal_longest}
use Rattle.text.proofs.numerals.U32Decimal.longest.Goals as goal

pub returns-clause-fits : goal.returns-clause-fits
returns-clause-fits c = λ n. omega (arith, decimal_longest n)
