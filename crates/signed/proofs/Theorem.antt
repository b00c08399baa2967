-- What users rely on: the kit's laws of `to_z` and `of_z`, at 32 bits.
-- Assumes nothing.
use mir.Syntax.{w32}
use mir.ValLaws.{to_z-of_z, of_z-to_z, to_z-Fits, of_z_fits}
use Rattle.signed.specs.Theorem.{Theorems}

pub theorems : Theorems
theorems = record {
  word_back = λ w h. of_z-to_z w32 w (record { fits = h });
  number_back = to_z-of_z w32;
  word_fits = λ z h. (of_z_fits w32 z h).fits;
  number_fits = λ w h. to_z-Fits w32 w (record { fits = h });
}
