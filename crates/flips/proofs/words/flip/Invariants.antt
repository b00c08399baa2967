-- `flip`: the mask is what is added to the bits above.
use mathlib.Core.Path.{◌≡◌}
use Prim.Native.Nat.{◌+◌, ◌^◌, ◌<◌}
use Rattle.digits.specs.Digits.{plus}
use Rattle.net.specs.Sequence.{top}
use Rattle.flips.proofs.Turn.{high}
use Rattle.flips.proofs.words.flip.Given as goal

abbrev pub invariant-loop-t : goal.invariant-loop-t
invariant-loop-t l = (l.first + 1 ≡ 2 ^ l.t) × (l.mask < 2 ^ l.t) × (high l.flips l.t l.word ≡ plus 2 (top 2 32 l.t l.word) l.mask)
