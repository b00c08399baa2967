-- Inner promises: what putting one line of a sheet has done.
use Rattle.std.specs.Prelude.{◌≡◌, ℕ, ◌+◌, ◌%◌, ◌^◌, ◌<◌, ◌≤◌, ◌⊎◌, List, [], ◌++◌, length, Option, Some, None}
use Rattle.visits.specs.declared.file_walks.FileVisit.{FileVisit}
use Rattle.visits.specs.declared.file_walks.FileWalk.{FileWalk}
use Rattle.text.specs.Put.{put}
use Rattle.listing.specs.Listing.{longest_line}
use Rattle.sheet.specs.declared.cursors.Place.TheVariants as place
use Rattle.sheet.specs.declared.cursors.Cursor.{Cursor}
use Rattle.sheet.specs.Sheet.{visit_line, blank_line}
use Rattle.sheet.specs.Cursor.{sheet_to_come}

-- the line of the visit that a step gave, and a blank one where it gave none
abbrev pub step_line : Option FileVisit → List ℕ
step_line (Some v) = visit_line v
step_line None = blank_line

-- the cursor after the number of page k, by what a step of the walk p gave
abbrev pub after_number : Option FileVisit → ℕ → FileWalk → Cursor
after_number (Some v) k p = record { place = place.Heading; page = (k + 1) % 2 ^ 32; walk = p }
after_number None k p = record { place = place.End; page = k; walk = p }

-- From the cursor c and byte `at` of the buffer d to the cursor c' and byte len of the buffer e: one line more is in the buffer, and the rest is
-- to come from c'. There is no line only where nothing is to come.
pub record LinePut (file : List ℕ) (c : Cursor) (d : List ℕ) (at : ℕ) (c' : Cursor) (e : List ℕ) (len : ℕ) : Type 0 where
  pub text : List ℕ
  pub joins : text ++ sheet_to_come file c' ≡ sheet_to_come file c
  pub short : length text ≤ longest_line
  pub some : (0 < length text) ⊎ (sheet_to_come file c' ≡ [])
  pub written : (len ≡ at + length text) × (e ≡ put d at text)
