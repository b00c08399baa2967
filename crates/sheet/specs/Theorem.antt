-- What users rely on: every line of a sheet has 27 columns, its pages are as many as its visits need and numbered from 1, read back by its
-- columns it is the listing, and its pieces, joined, are the sheet; and files without a reader's field have the sheets that they had.
use Rattle.std.specs.Prelude.{◌≡◌, ℕ, ◌+◌, ◌-◌, ◌*◌, ◌<◌, ◌≤◌, true, List, [], ◌∷◌, ◌++◌, length, take, drop, replicate, ℤ, pos, negsuc}
use Rattle.ranges.specs.Below.{Below}
use Rattle.ranges.specs.Each.{Each}
use Rattle.refusal.specs.Outcome.{accepted, refused}
use Rattle.region_file.specs.Records.{zeros}
use Rattle.visits.specs.declared.file_walks.FileVisit.{FileVisit}
use Rattle.visits.specs.Visits.{visits_outcome}
use Rattle.visits.specs.Base.{base_visits_outcome}
use Rattle.text.specs.Ascii.{line_feed, blank}
use Rattle.text.specs.Decimal.{decimal}
use Rattle.text.specs.Pieces.{join, Pieces}
use Rattle.listing.specs.Listing.{listing, longest_line}
use Rattle.sheet.specs.declared.cursors.Cursor.{Cursor}
use Rattle.sheet.specs.Sheet.{heading, blank_line, page_line, page_visits, page, page_count, sheet_lines, sheet_report, sheet}
use Rattle.sheet.specs.ReadBack.{text_at, read_back}
use Rattle.sheet.specs.Cursor.{sheet_to_come, SheetPiece}

-- ---- what has room

-- from -1,000,000 to 1,999,999
abbrev pub Near : ℤ → Type 0
Near (pos n) = n ≤ 1999999
Near (negsuc n) = n ≤ 999999

-- a visit whose fields have room in their columns
pub record Narrow (v : FileVisit) : Type 0 where
  pub number : v.number ≤ 2047
  pub index : v.index ≤ 4095
  pub x : Near v.x
  pub y : Near v.y

-- a printable byte of ASCII: no line feed among them
abbrev pub Printable : ℕ → Type 0
Printable c = (32 ≤ c) × (c ≤ 126)

-- a line of 27 columns and a line feed
pub record SheetLine (l : List ℕ) : Type 0 where
  pub columns : List ℕ
  pub wide : length columns ≡ 27
  pub printable : Each Printable columns
  pub fed : l ≡ columns ++ (line_feed ∷ [])

-- " rec  vis        x        y" and a line feed
abbrev pub heading_bytes : List ℕ
heading_bytes =
    32 ∷ 114 ∷ 101 ∷ 99 ∷ 32 ∷ 32 ∷ 118 ∷ 105 ∷ 115 ∷ 32 ∷ 32 ∷ 32 ∷ 32 ∷ 32 ∷ 32 ∷ 32 ∷ 32 ∷ 120 ∷
    32 ∷ 32 ∷ 32 ∷ 32 ∷ 32 ∷ 32 ∷ 32 ∷ 32 ∷ 121 ∷ 10 ∷ []

-- p pages hold n visits, and more than one only where fewer do not
pub record Fewest (n p : ℕ) : Type 0 where
  pub some : 1 ≤ p
  pub enough : n ≤ p * page_visits
  pub fewest : 1 < p → (p - 1) * page_visits < n

-- ---- statements

-- the sheet of an accepted file with the visits vs
pub record SheetOf (file : List ℕ) (vs : List FileVisit) : Type 0 where
  pub narrow : Each Narrow vs
  -- every line has exactly 27 columns and a line feed
  pub lines : Each SheetLine (sheet_lines vs)
  pub fewest_pages : Fewest (length vs) (page_count (length vs))
  pub most_pages : page_count (length vs) ≤ 174678
  -- every page has 50 lines, which is 1,400 bytes
  pub line_count : length (sheet_lines vs) ≡ page_count (length vs) * 50
  pub byte_count : length (sheet file) ≡ page_count (length vs) * 1400
  -- the page after p pages has the number p + 1, and the visits after those of the p pages
  pub numbered : (p : ℕ) → p < page_count (length vs) → take 50 (drop (p * 50) (sheet_lines vs)) ≡ page (p + 1) (drop (p * page_visits) vs)
  pub reads_back : read_back (sheet file) ≡ listing file

-- calls of `piece` one after the other, each from the cursor that the one before left, with any buffers
abbrev pub SheetPieces : List ℕ → Cursor → List (List ℕ) → Cursor → Type 0
SheetPieces file = Pieces (sheet_to_come file) longest_line

pub record Theorems : Type 0 where
  -- the first line of a page
  pub heading_line : heading ≡ heading_bytes
  -- a line without a visit
  pub blank_bytes : blank_line ≡ replicate 27 blank ++ (line_feed ∷ [])
  -- the last line of a page has its number, and nothing behind it
  pub number_line : (k : ℕ) → text_at 0 27 (page_line k) ≡ decimal k
  -- of every accepted file of bytes
  pub sheets : (file : List ℕ) (vs : List FileVisit) → Below 256 file → visits_outcome file ≡ accepted vs → SheetOf file vs
  -- and of every refused one
  pub refusals : (file : List ℕ) (n : ℕ) (values : List ℕ) → visits_outcome file ≡ refused n values → sheet file ≡ listing file
  -- a file whose bytes 8 to 15 are zero: the sheet of the visits that it had by 01, or of its refusal
  pub as_before : (file : List ℕ) → zeros file 8 8 ≡ true → sheet file ≡ sheet_report (base_visits_outcome file)
  -- at any time: the pieces so far and what is to come are the sheet, for every file and a cursor c that `open` gives
  pub so_far : (file : List ℕ) (c d : Cursor) (ps : List (List ℕ)) → sheet_to_come file c ≡ sheet file → SheetPieces file c ps d
      → join ps ++ sheet_to_come file d ≡ sheet file
  -- up to an empty piece in a buffer with room for a line: the sheet
  pub whole : (file : List ℕ) (c d e : Cursor) (ps : List (List ℕ)) (room : ℕ) → sheet_to_come file c ≡ sheet file → SheetPieces file c ps d
      → SheetPiece file d e [] room → longest_line ≤ room → join ps ≡ sheet file
