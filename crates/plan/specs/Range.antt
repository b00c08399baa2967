-- The test of a range of indexes.
use Rattle.std.specs.Prelude.{ℕ}
use Rattle.refusal.specs.Outcome.{Test}
use Rattle.word.specs.Index.{goes_past}

-- 9: start + count is above the number n of indexes
abbrev pub past_last : (n start count : ℕ) → Test
past_last n start count = record { number = 9; holds = goes_past n start count }
