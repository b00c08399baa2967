-- What users rely on: the pieces of a file's listing, joined, are the listing; and files without a reader's field are listed as 01 has it.
use Rattle.std.specs.Prelude.{◌≡◌, true, List, [], ◌++◌, ℕ, ◌≤◌}
use Rattle.region_file.specs.Records.{zeros}
use Rattle.visits.specs.Base.{base_visits_outcome}
use Rattle.text.specs.Pieces.{join, Pieces}
use Rattle.listing.specs.declared.cursors.Cursor.{Cursor}
use Rattle.listing.specs.Listing.{report, listing, longest_line}
use Rattle.listing.specs.Cursor.{to_come, ListingPiece}

-- calls of `piece` one after the other, each from the cursor that the one before left, with any buffers
abbrev pub ListingPieces : List ℕ → Cursor → List (List ℕ) → Cursor → Type 0
ListingPieces file = Pieces (to_come file) longest_line

pub record Theorems : Type 0 where
  -- a file whose bytes 8 to 15 are zero: the text of the visits that it had by 01, or of its refusal
  pub as_before : (file : List ℕ) → zeros file 8 8 ≡ true → listing file ≡ report (base_visits_outcome file)
  -- at any time: the pieces so far and what is to come are the listing, for every file and a cursor c that `open` gives
  pub so_far : (file : List ℕ) (c d : Cursor) (ps : List (List ℕ)) → to_come file c ≡ listing file → ListingPieces file c ps d
      → join ps ++ to_come file d ≡ listing file
  -- up to an empty piece in a buffer with room for a line: the listing
  pub whole : (file : List ℕ) (c d e : Cursor) (ps : List (List ℕ)) (room : ℕ) → to_come file c ≡ listing file → ListingPieces file c ps d
      → ListingPiece file d e [] room → longest_line ≤ room → join ps ≡ listing file
