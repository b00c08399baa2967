-- `masks`: after eight bits the tree has the masks.
use Rattle.ranges.proofs.Filled.{Filled}
use Rattle.flips.specs.Scramble.{mask}
use Rattle.flips.proofs.words.masks.Given as goal

abbrev pub invariant-loop-v : goal.invariant-loop-v
invariant-loop-v l = Filled (mask l.fn.flips l.shift) 0 l.v l.initial.mask-items l.mask-items
