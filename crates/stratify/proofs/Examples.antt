-- Demand 3 and C-15 at their limits, of the standard pair, under all flips and shifts. Assumes nothing.
use mathlib.Core.Path.{sym, subst}
use Prim.Native.Nat.{ℕ, ◌-◌, ◌^◌, ◌≤◌, ◌<◌}
use lib.Dec.{lit<, lit≤}
use Rattle.net.specs.Run.{visits, hits}
use Rattle.net.proofs.Unreached as unreached
use Rattle.net.proofs.Examples as net
use Rattle.net.proofs.Examples.{Reached}
use Rattle.word.specs.Index.{index_bits}
use Rattle.plan.specs.declared.points.Scramble.{Scramble}
use Rattle.plan.specs.Pair.{scrambling, sequence, standard_pair}
use Rattle.stratify.specs.Answers.{ScrambleFits}
use Rattle.stratify.specs.Theorem.{unscrambled, VisitedOnce}
use Rattle.stratify.proofs.LedBack.{lawful}
use Rattle.stratify.proofs.Theorem.{theorems}

module _ (s : Scramble) (fits : ScrambleFits s) where
  once : (m a k c r : ℕ) → m ≤ 32 → a ≤ m → c < 2 ^ a → r < 2 ^ (m - a) → k < 2 ^ (32 - m) → VisitedOnce standard_pair s m a k c r
  once m a k c r size wide hc hr hk =
      theorems.standard.covered s fits m a k c r (record { size = size; wide = wide; column = hc; row = hr; block = hk })

  -- size 0 in the last block; all indexes in one block, the last of 2^32 rows and the last of 2^32 columns; 01's last block with m 4
  limits : VisitedOnce standard_pair s 0 0 4294967295 0 0 × VisitedOnce standard_pair s 32 0 0 0 4294967295
      × VisitedOnce standard_pair s 32 32 0 4294967295 0 × VisitedOnce standard_pair s 4 1 268435455 1 7
  limits = (
    once 0 0 4294967295 0 0 (lit≤ tt) (lit≤ tt) (lit< tt) (lit< tt) (lit< tt),
    once 32 0 0 0 4294967295 (lit≤ tt) (lit≤ tt) (lit< tt) (lit< tt) (lit< tt),
    once 32 32 0 4294967295 0 (lit≤ tt) (lit≤ tt) (lit< tt) (lit< tt) (lit< tt),
    once 4 1 268435455 1 7 (lit≤ tt) (lit≤ tt) (lit< tt) (lit< tt) (lit< tt),
  )

  -- a cell of the shape (4, 2) never has 5 of 50 visits, although the bound for every shape of that size is 5
  never_five : (c r start : ℕ) → c < 4 → r < 4 → hits (sequence standard_pair s) 4 2 c r (visits (sequence standard_pair s) start 50) ≤ 4
  never_five = unreached.never_five index_bits (lit≤ tt) (scrambling s) (lawful s fits.shift)

-- the bounds of C-15 are reached, without flips and shift, in three shapes
reached : Reached (sequence standard_pair unscrambled)
reached = subst Reached (sym (theorems.unshifted theorems.standard.valid)) net.reached
