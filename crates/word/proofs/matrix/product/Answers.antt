-- `product`: the sum so far and the product of the columns to come add up to the product.
use Rattle.std.proofs.Common.{sym, ◌∙◌, arith, rules}
use Rattle.digits.proofs.Arithmetic.{zero-plus}
use Rattle.digits.proofs.Two.{one_lt_two}
use Rattle.word.proofs.Turn.{times_bit_fits, sum_drop, sum_past}
use Rattle.word.proofs.matrix.product.Goals as goal

pub loop-c-init : goal.loop-c-init
loop-c-init c = zero-plus one_lt_two _

pub overflow_mul-sum : goal.overflow_mul-sum
overflow_mul-sum c = times_bit_fits _ (search rules)

pub loop-c-preserved : goal.loop-c-preserved
loop-c-preserved c = let l = c.loop-c in sum_drop c.args.columns l.c l.rest l.sum ∙ l.invariant

pub returns : goal.returns
returns c = let l = c.loop-c in sym (sum_past c.args.columns l.c l.rest l.sum (omega arith)) ∙ l.invariant
