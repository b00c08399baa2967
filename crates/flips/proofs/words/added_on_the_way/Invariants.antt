-- `added_on_the_way`: the nodes that come after those passed are known.
use mathlib.Core.Path.{◌≡◌}
use Prim.Native.Nat.{◌+◌, ◌*◌}
use lib.ListN.{length}
use Rattle.flips.specs.Tree.{OnTheWay}
use Rattle.flips.proofs.words.added_on_the_way.Given as goal

abbrev pub invariant-loop-node : goal.invariant-loop-node
invariant-loop-node l = (length l.tree ≡ 511) × OnTheWay l.flips (l.node * 2 + 1) l.tree
