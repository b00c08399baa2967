-- The parts of a single by IEEE 754 (binary32), below its sign: the exponent field, by C-13's cases, and the stored digits.
use Rattle.std.specs.Prelude.{List, [], ◌∷◌, ℕ, ◌%◌, ◌^◌, get_or}
use Rattle.unit.specs.Quotient.{leading_digits}

-- C-13's table: entry z, from 0 to 32, is the exponent field of the single of a word with z leading zeros
unfoldable pub exponent_fields : List ℕ
exponent_fields =
    126 ∷ 125 ∷ 124 ∷ 123 ∷ 122 ∷ 121 ∷ 120 ∷ 119  -- z from 0 to 7
    ∷ 118 ∷ 117 ∷ 116 ∷ 115 ∷ 114 ∷ 113 ∷ 112 ∷ 111  -- 8 to 15
    ∷ 110 ∷ 109 ∷ 108 ∷ 107 ∷ 106 ∷ 105 ∷ 104 ∷ 103  -- 16 to 23
    ∷ 102 ∷ 101 ∷ 100 ∷ 99 ∷ 98 ∷ 97 ∷ 96 ∷ 95  -- 24 to 31
    ∷ 0 ∷ []  -- 32

-- that entry
abbrev pub exponent_field : ℕ → ℕ
exponent_field z = get_or exponent_fields z 0

-- the 23 digits that a single stores of the 24 from the leading one on: all but that one
abbrev pub stored_digits : ℕ → ℕ → ℕ
stored_digits L v = leading_digits L v % 2 ^ 23
