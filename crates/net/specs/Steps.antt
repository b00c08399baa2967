-- Statements on lists: the visits of a run and of a part of it, and the steps of a walk.
use Rattle.std.specs.Prelude.{◌≡◌, ℕ, ◌+◌, ◌-◌, ◌*◌, ◌^◌, ◌<◌, min, take, drop}
use Rattle.ranges.specs.Walk.{answers, visits_given}
use Rattle.net.specs.Sequence.{Sequence, Finds}
use Rattle.net.specs.Run.{visit, visits, run, hits}

-- Where a block visits each interval once, its run has one visit in each. The n visits from index p of a block on, as far as they go
-- into the block, are the run from there.
pub record Runs (S : Sequence) (m k : ℕ) : Type 0 where
  pub one_hit : (a : ℕ) (find : ℕ → ℕ → ℕ) → Finds S m a k find
      → (c r : ℕ) → c < S.b ^ a → r < S.b ^ (m - a) → hits S m a c r (run S m k) ≡ 1
  pub run_from : (p n : ℕ) → take (S.b ^ m - p) (visits S (k * S.b ^ m + p) n) ≡ take n (drop p (run S m k))

-- the visits that n steps give on a walk opened at the first index of block k, as far as they go into the block, are the run
pub record WalkedRun (S : Sequence) (m k last count n : ℕ) : Type 0 where
  pub list : take (S.b ^ m) (visits_given (answers (visit S) last n (record { next = k * S.b ^ m; left = count }))) ≡ take (min n count) (run S m k)
