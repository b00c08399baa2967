-- `prefixes`: the sum is the product with as many ones as columns are in it, and the columns to come stand as they were.
use Rattle.std.proofs.Common.{◌≡◌, ℕ, suc, ◌≤◌, List, get_or}
use Rattle.ranges.proofs.Filled.{Filled}
use Rattle.net.specs.Generators.{product}
use Rattle.word.specs.Prefix.{ones}
use Rattle.word.proofs.sums.prefixes.Given as goal

-- the sum of n columns, and of the columns 0 to t
abbrev pub first : List ℕ → ℕ → ℕ
first columns n = product 2 columns (ones 2 n)

abbrev pub running : List ℕ → ℕ → ℕ
running columns t = first columns (suc t)

abbrev pub invariant-loop-entry : goal.invariant-loop-entry
invariant-loop-entry l = record {
  filled : Filled (running l.fn.columns) 0 l.entry-index l.fn.columns l.entry-items;
  to_come : (k : ℕ) → l.entry-index ≤ k → get_or l.entry-items k 0 ≡ get_or l.fn.columns k 0;
  sum_is : l.sum ≡ first l.fn.columns l.entry-index;
}
