-- `reversed`: after k turns the sum is the reversal of the lowest k bytes, and the rest are the bytes above them.
-- That the table holds the reversed bytes is one computed test, where the loop begins.
use mathlib.Core.Path.{◌≡◌}
use mathlib.Core.List.{map}
use Prim.Native.Nat.{◌*◌}
use Rattle.ranges.specs.Range.{range}
use Rattle.digits.specs.Digits.{reversed}
use Rattle.word.proofs.Table.{Split}
use Rattle.word.proofs.reversal.reversed.Given as goal

abbrev pub invariant-loop-k : goal.invariant-loop-k
invariant-loop-k l = (l.table ≡ map (reversed 2 8) (range 0 256)) × Split 2 (8 * l.k) l.word l.rest l.sum
