-- Two's complement: words of 32 bits stand for the numbers from -2^31 to 2^31 - 1. Both functions are the kit's own reading of an i32.
use Rattle.std.specs.Prelude.{ℕ, ℤ}
use Rattle.std.specs.Int.{w32}
use Rattle.std.proofs.Common.{to_z, of_z}

-- the number that a word stands for: w below 2^31, and w - 2^32 from there on
abbrev pub cast_signed : ℕ → ℤ
cast_signed w = to_z w32 w

-- the word that stands for a number: z from 0 on, and 2^32 + z below 0
abbrev pub cast_unsigned : ℤ → ℕ
cast_unsigned z = of_z w32 z
