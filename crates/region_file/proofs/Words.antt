-- The words of a file of bytes are below 2^32.
-- Assumes nothing.
use mathlib.Core.List.{List}
use Prim.Native.Nat.{ℕ, ◌+◌, ◌^◌, ◌<◌}
use native.Mathlib.Omega.{arith}
use lib.Dec.{lit<}
use lib.ListN.{get_or}
use Rattle.ranges.specs.Below.{Below}
use Rattle.ranges.proofs.Below.{below_at}
use Rattle.region_file.specs.Records.{word_at}

pub word_lt : (file : List ℕ) → Below 256 file → (at : ℕ) → word_at file at < 2 ^ 32
unfolding word_at
word_lt file h at =
    let p : (k : ℕ) → get_or file k 0 < 256 = λ k. below_at 256 file k (lit< tt) h in
    omega (arith, p at, p (at + 1), p (at + 2), p (at + 3))
