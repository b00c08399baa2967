-- The reader's field on one axis of the stage (C-12): how far it reaches, and the places that its corner may take.
use Rattle.std.specs.Prelude.{Bool, cond, ℕ, ◌+◌, ◌-◌, eqb, leb}

-- the extent F of a field, in µm, from the word that gives it: 0 counts as 1
unfoldable pub field_extent : ℕ → ℕ
field_extent word = cond (eqb word 0) 1 word

-- the field is no larger than the extent of a region
abbrev pub fits_in : ℕ → ℕ → Bool
fits_in extent word = leb (field_extent word) extent

-- the number of places that the corner of the field may take: extent - F + 1. The 1 is added first, since a difference of natural numbers is
-- never below 0: so there is no place where the field is larger than the extent.
abbrev pub span : ℕ → ℕ → ℕ
span extent word = extent + 1 - field_extent word
