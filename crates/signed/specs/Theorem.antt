-- What users rely on: words and the numbers that fit in 32 bits correspond one to one.
use Rattle.std.specs.Prelude.{◌≡◌, ℕ, ◌^◌, ◌<◌, ℤ}
use Rattle.std.specs.Int.{w32}
use Rattle.std.proofs.Common.{SFits}
use Rattle.signed.specs.Words.{cast_signed, cast_unsigned}

pub record Theorems : Type 0 where
  -- a word, as a number and back
  pub word_back : (w : ℕ) → w < 2 ^ 32 → cast_unsigned (cast_signed w) ≡ w
  -- a number from -2^31 to 2^31 - 1, as a word and back
  pub number_back : (z : ℤ) → SFits w32 z → cast_signed (cast_unsigned z) ≡ z
  -- each is in the range of the other
  pub word_fits : (z : ℤ) → SFits w32 z → cast_unsigned z < 2 ^ 32
  pub number_fits : (w : ℕ) → w < 2 ^ 32 → SFits w32 (cast_signed w)
