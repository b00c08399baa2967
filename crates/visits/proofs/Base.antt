-- A file whose record 0 has zero for a field has the visits of 01: it is judged so, and its records are read as they stand, since the corner of a
-- field of 0 by 0 may take every place of a region.
-- Assumes nothing.
use mathlib.Core.Path.{◌≡◌, refl, ap, ap₂, ◌∙◌}
use mathlib.Core.Bool.{true}
use mathlib.Core.List.{List, [], ◌∷◌, ◌++◌}
use Prim.Native.Nat.{ℕ}
use native.Mathlib.Omega.{arith}
use Rattle.refusal.specs.Outcome.{Outcome, accepted, then}
use Rattle.stage.specs.declared.regions.Field.{Field}
use Rattle.stage.specs.Region.{corners}
use Rattle.stage.proofs.Fit.{corners-least}
use Rattle.region_file.specs.declared.records.Record.{Record}
use Rattle.region_file.specs.Records.{record_at, zeros}
use Rattle.region_file.specs.Chain.{chain_numbers}
use Rattle.region_file.proofs.Base.{no_field}
use Rattle.region_file.proofs.Theorem.{theorems}
use Rattle.visits.specs.declared.file_walks.FileVisit.{FileVisit}
use Rattle.visits.specs.Visits.{with_region, planned, position_of, record_visits, visits_of, file_visits, visits_outcome}
use Rattle.visits.specs.Base.{base_visits_of, base_visits_outcome}

module _ (file : List ℕ) (h : zeros file 8 8 ≡ true) where
  read_as_is : (n : ℕ) → planned file n ≡ record_at file n
  read_as_is n =
      let r = record_at file n in
      ap (λ (f : Field). with_region r (corners f r.region)) (no_field file h)
      ∙ ap (with_region r) (corners-least (record { width = 0; height = 0 }) r.region (omega arith) (omega arith))

  -- of a record that is read as it stands `position_of` is 01's formula
  visits_as_before : (ns : List ℕ) → visits_of file ns ≡ base_visits_of file ns
  unfolding visits_of base_visits_of position_of
  visits_as_before [] = refl
  visits_as_before (n ∷ ns) =
      ap₂ (λ (r : Record) (vs : List FileVisit). record_visits n r 0 r.count ++ vs) (read_as_is n) (visits_as_before ns)

pub as_before : (file : List ℕ) → zeros file 8 8 ≡ true → visits_outcome file ≡ base_visits_outcome file
unfolding file_visits
as_before file h =
    ap₂ (λ (o : Outcome Unit) (vs : List FileVisit). then o (accepted vs)) (theorems.as_before file h).0
    (visits_as_before file h (chain_numbers file))
