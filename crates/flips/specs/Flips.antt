-- Nested flips of words (C-16): Owen's scrambling in base two, to depth 8. The flip bits of an axis, and what they make of a word.
use Rattle.std.specs.Prelude.{◌≡◌, true, false, List, ℕ, ◌+◌, ◌-◌, ◌/◌, ◌%◌, ◌^◌, ltb, get_or}
use Rattle.digits.specs.Digits.{digit}
use Rattle.net.specs.Scrambling.{nested, adding, unnested, taking}

-- flip bit n of the bytes of an axis: bit n mod 8 of byte n / 8, both counted from the lowest
unfoldable pub flip_bit : List ℕ → ℕ → ℕ
flip_bit flips n = digit 2 (n % 8) (get_or flips (n / 8) 0)

-- how many bits from the top can be flipped
abbrev pub depth : ℕ
depth = 8

-- what is added to bit t from the top, where the t bits above it are p: flip bit 2 ^ t - 1 + p; deeper bits pass
unfoldable pub flip_at : List ℕ → ℕ → ℕ → ℕ
flip_at flips t p = elim (ltb t depth) [ true ↦ flip_bit flips (2 ^ t - 1 + p) | false ↦ 0 ]

-- a word of 32 bits, flipped: each bit by the flip bit that the bits above it choose, as they are before any flip
abbrev pub flipped : List ℕ → ℕ → ℕ
flipped flips = nested 2 32 (adding 2 (flip_at flips)) 32

-- the word that is flipped to this one, from the top: the bits above are those found so far
abbrev pub unflipped : List ℕ → ℕ → ℕ
unflipped flips = unnested 2 32 (taking 2 (flip_at flips)) 32

-- no flip bit is set
abbrev pub NoneSet : List ℕ → Type 0
NoneSet flips = (n : ℕ) → flip_bit flips n ≡ 0
