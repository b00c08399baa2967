-- `product`: the sum so far and the product of the columns to come add up to the product.
use Rattle.std.proofs.Common.{◌≡◌, drop}
use Rattle.digits.specs.Digits.{plus}
use Rattle.net.specs.Generators.{product}
use Rattle.word.proofs.matrix.product.Given as goal

abbrev pub invariant-loop-c : goal.invariant-loop-c
invariant-loop-c l = plus 2 l.sum (product 2 (drop l.c l.columns) l.rest) ≡ product 2 l.columns l.index
