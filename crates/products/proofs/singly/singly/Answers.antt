-- `singly`: the words so far are the masked products, and the word leads to the next.
use Rattle.std.proofs.Common.{arith}
use Rattle.products.proofs.Consecutive.{along_none, along_one, along_all}
use Rattle.products.proofs.singly.singly.Goals as goal

pub loop-k-init : goal.loop-k-init
loop-k-init c = along_none c.product-word.ensures

pub loop-k-preserved : goal.loop-k-preserved
loop-k-preserved c =
    along_one c.loop-k.invariant c.loop-k-test.true c.masked.result c.next-word.result c.masked.ensures (λ more. c.next-word.ensures (omega arith))

pub returns : goal.returns
returns c = along_all c.loop-k.invariant (omega arith)
