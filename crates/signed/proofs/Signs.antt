-- The word of a number stands for that number.
-- Assumes nothing.
use mathlib.Core.Path.{◌≡◌, ap, ◌∙◌}
use Prim.Native.Nat.{ℕ}
use lib.IntN.{ℤ}
use mir.Syntax.{w32}
use mir.Val.{SFits, to_z, of_z}
use mir.ValLaws.{to_z-of_z}
use Rattle.signed.specs.Words.{cast_signed, cast_unsigned}

-- the machine's number, read back from its bits
abbrev read : ℤ → ℤ
read z = to_z w32 (of_z w32 z)

-- the word of a number that the machine has read stands for that number
pub word_back : {w : ℕ} (z : ℤ) → SFits w32 z → w ≡ cast_unsigned (read z) → cast_signed w ≡ z
word_back z f e = ap (to_z w32) e ∙ ap read (to_z-of_z w32 z f) ∙ to_z-of_z w32 z f
