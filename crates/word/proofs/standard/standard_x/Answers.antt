-- `standard_x`: the product with the identity is the reversal of the index.
use mathlib.Core.Path.{sym, ◌∙◌}
use native.Mathlib.Omega.{arith}
use Rattle.digits.proofs.Two.{one_lt_two}
use Rattle.net.proofs.Theorem.{theorems}
use Rattle.word.proofs.standard.standard_x.Goals as goal

pub returns : goal.returns
returns c = c.reversed.ensures ∙ sym ((theorems.standard_laws one_lt_two 32 32 (omega arith)).reversal c.args.index)
