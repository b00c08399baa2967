-- The range of the indexes.
use Rattle.std.specs.Prelude.{Bool, ℕ, ◌+◌, ◌-◌, ◌^◌, ltb}

-- An index has 32 bits, and a generator matrix a column for each of them.
abbrev pub index_bits : ℕ
index_bits = 32

-- how many indexes there are
abbrev pub index_count : ℕ
index_count = 2 ^ index_bits

abbrev pub last_index : ℕ
last_index = index_count - 1

-- count indexes from start on go past the last of n indexes
abbrev pub goes_past : (n start count : ℕ) → Bool
goes_past n start count = ltb n (start + count)
