-- What is still to come from a cursor, whatever its fields and the file.
use Rattle.std.specs.Prelude.{ℕ, suc, ◌%◌, ◌^◌, List, [], ◌∷◌, ◌++◌, map, length, drop}
use Rattle.ranges.specs.Range.{range}
use Rattle.visits.specs.declared.file_walks.FileVisit.{FileVisit}
use Rattle.visits.specs.FileWalk.{visits_to_come}
use Rattle.text.specs.Pieces.{join, Piece}
use Rattle.listing.specs.Listing.{refused_text, longest_line}
use Rattle.sheet.specs.declared.cursors.Place.{Place}
use Rattle.sheet.specs.declared.cursors.Place.TheVariants as place
use Rattle.sheet.specs.declared.cursors.Cursor.{Cursor}
use Rattle.sheet.specs.Sheet.{page_line, visit_lines, pages, page_count}

-- the numbers of n pages from page k on, as words of 32 bits. A file has fewer than 2^32 pages: only cursors made by hand come round to 0.
abbrev pub page_numbers : ℕ → ℕ → List ℕ
page_numbers k n = map (λ j. j % 2 ^ 32) (range k n)

-- pages for all of the visits, from page k on, and at least that one
unfoldable pub pages_from : ℕ → List FileVisit → List ℕ
pages_from k vs = join (pages (page_numbers k (page_count (length vs))) vs)

-- what follows page k, where these visits are left: pages for all of them, and none where none is left
unfoldable pub after_page : ℕ → List FileVisit → List ℕ
after_page k [] = []
after_page k (v ∷ vs) = pages_from (suc k) (v ∷ vs)

-- what is to come from a place on page k, with these visits to come
unfoldable pub from_place : Place → ℕ → List FileVisit → List ℕ
from_place (place.Refusal n) k vs = refused_text n
from_place place.Heading k vs = pages_from k vs
from_place (place.Lines n) k vs = join (visit_lines n vs) ++ (page_line k ++ after_page k (drop n vs))
from_place place.End k vs = []

abbrev pub sheet_to_come : List ℕ → Cursor → List ℕ
sheet_to_come file c = from_place c.place c.page (visits_to_come file c.walk)

-- what a call of `piece` gives in a buffer of `room` bytes: the piece, and the cursor past it
abbrev pub SheetPiece : List ℕ → Cursor → Cursor → List ℕ → ℕ → Type 0
SheetPiece file = Piece (sheet_to_come file) longest_line
