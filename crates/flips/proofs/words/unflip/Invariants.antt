-- `unflip`: the node is that of the bits above, as they were before the flips.
use Rattle.flips.proofs.Turn.{Node, low}
use Rattle.flips.proofs.words.unflip.Given as goal

abbrev pub invariant-loop-t : goal.invariant-loop-t
invariant-loop-t l = Node l.t (low l.flips l.t l.word) l.node
