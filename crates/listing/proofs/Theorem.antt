-- What users rely on.
-- Assumes nothing.
use mathlib.Core.Path.{◌≡◌, ap, ◌∙◌}
use mathlib.Core.Bool.{true}
use mathlib.Core.List.{List}
use Prim.Native.Nat.{ℕ}
use Rattle.region_file.specs.Records.{zeros}
use Rattle.visits.specs.Base.{base_visits_outcome}
use Rattle.visits.proofs.Theorem as visits
use Rattle.text.proofs.Joins.{so_far, whole}
use Rattle.listing.specs.Listing.{report, listing, longest_line}
use Rattle.listing.specs.Cursor.{to_come}
use Rattle.listing.specs.Theorem.{Theorems}

as_before : (file : List ℕ) → zeros file 8 8 ≡ true → listing file ≡ report (base_visits_outcome file)
unfolding listing
as_before file h = ap report ((visits.theorems).as_before file h)

pub theorems : Theorems
theorems = record {
  as_before = as_before;
  so_far = λ file c d ps e run. so_far (to_come file) longest_line c d ps run ∙ e;
  whole = λ file c d f ps room e run last h. whole (to_come file) longest_line c d f ps room run last h ∙ e;
}
