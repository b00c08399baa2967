-- The running sums of columns.
use Rattle.std.specs.Prelude.{List, map, ℕ, zero, suc, ◌+◌, ◌*◌}
use Rattle.ranges.specs.Range.{range}
use Rattle.net.specs.Generators.{product}

-- the number of n digits that are all 1
unfoldable pub ones : ℕ → ℕ → ℕ
ones b zero = 0
ones b (suc n) = ones b n * b + 1

-- for each t below n the sum of the columns 0 to t, without carries: the product with t + 1 ones
abbrev pub prefixes : ℕ → ℕ → List ℕ → List ℕ
prefixes b n columns = map (λ t. product b columns (ones b (suc t))) (range 0 n)
