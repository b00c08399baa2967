-- How many of n consecutive numbers pass a test, where of each block of B numbers exactly one does (C-15).
use Rattle.std.specs.Prelude.{◌≡◌, Bool, ℕ, ◌+◌, ◌-◌, ◌*◌, ◌/◌, ◌≤◌}
use Rattle.ranges.specs.Range.{range}
use Rattle.ranges.specs.Count.{count}

-- n / d rounded up
unfoldable pub ceiling : ℕ → ℕ → ℕ
ceiling n d = (n + (d - 1)) / d

-- q is the least number that, times d, reaches n
pub record IsCeiling (n d q : ℕ) : Type 0 where
  pub reaches : n ≤ q * d
  pub least : (p : ℕ) → n ≤ p * d → q ≤ p

-- of each block of B numbers exactly one passes; block k begins at k * B
abbrev pub OneInEach : (ℕ → Bool) → ℕ → Type 0
OneInEach test B = (k : ℕ) → count test (range (k * B) B) ≡ 1

-- `many` of the n numbers from start on pass, n being 1 or more. Wherever they begin, that is at most ceil((n - 1) / B) + 1 and at least
-- floor((n + 1) / B) - 1 (C-15); a difference is never below 0. From a known start on, it is at most the number of blocks that they touch, and
-- at least the number of blocks that lie whole among them.
pub record CountBounds (start n B many : ℕ) : Type 0 where
  pub most : many ≤ ceiling (n - 1) B + 1
  pub least : (n + 1) / B - 1 ≤ many
  pub touched : many ≤ ceiling (start + n) B - start / B
  pub whole : (start + n) / B - ceiling start B ≤ many
