-- `singly`: the words so far are the masked products, and the word leads to the next.
use Rattle.products.proofs.Consecutive.{Along}
use Rattle.products.proofs.singly.singly.Given as goal

abbrev pub invariant-loop-k : goal.invariant-loop-k
invariant-loop-k l = Along l.axis.columns l.masking.bits l.masking.masks.now l.start l.k l.initial.out l.out l.word
