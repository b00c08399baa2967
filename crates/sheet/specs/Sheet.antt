-- The visit sheet of a region file, as bytes of ASCII: its visits in pages of 50 lines, each of 27 columns and a line feed.
use Rattle.std.specs.Prelude.{ℕ, zero, suc, ◌+◌, ◌/◌, max, List, [], ◌∷◌, ◌++◌, length, drop}
use Rattle.ranges.specs.Range.{range}
use Rattle.refusal.specs.Outcome.{Outcome, accepted, refused}
use Rattle.visits.specs.declared.file_walks.FileVisit.{FileVisit}
use Rattle.visits.specs.Visits.{visits_outcome}
use Rattle.text.specs.Ascii.{line_feed, blank}
use Rattle.text.specs.Decimal.{decimal, signed_decimal}
use Rattle.text.specs.Columns.{aligned}
use Rattle.text.specs.Pieces.{join}
use Rattle.listing.specs.Listing.{refused_text}

-- ---- a line

-- four texts in 4, 4, 8 and 8 columns, a space between and a line feed behind
unfoldable pub in_columns : List ℕ → List ℕ → List ℕ → List ℕ → List ℕ
in_columns a b c d = aligned 4 a blank ++ (aligned 4 b blank ++ (aligned 8 c blank ++ aligned 8 d line_feed))

-- one text in all 27 columns, and a line feed behind
unfoldable pub across : List ℕ → List ℕ
across text = aligned 27 text line_feed

-- "rec", "vis", "x" and "y"
abbrev pub heading : List ℕ
heading = in_columns (114 ∷ 101 ∷ 99 ∷ []) (118 ∷ 105 ∷ 115 ∷ []) (120 ∷ []) (121 ∷ [])

-- the number of the record, the index and the position
unfoldable pub visit_line : FileVisit → List ℕ
visit_line v = in_columns (decimal v.number) (decimal v.index) (signed_decimal v.x) (signed_decimal v.y)

abbrev pub blank_line : List ℕ
blank_line = across []

-- the number of a page
abbrev pub page_line : ℕ → List ℕ
page_line k = across (decimal k)

-- ---- pages

-- the number of visits that have room on a page
abbrev pub page_visits : ℕ
page_visits = 48

-- n lines, for the first n of the visits: blank where there are fewer
unfoldable pub visit_lines : ℕ → List FileVisit → List (List ℕ)
visit_lines zero vs = []
visit_lines (suc n) [] = blank_line ∷ visit_lines n []
visit_lines (suc n) (v ∷ vs) = visit_line v ∷ visit_lines n vs

-- the lines of page k, for the first 48 of the visits
unfoldable pub page : ℕ → List FileVisit → List (List ℕ)
page k vs = heading ∷ (visit_lines page_visits vs ++ (page_line k ∷ []))

-- the lines of the pages with these numbers, each for the visits after those of the pages before it
unfoldable pub pages : List ℕ → List FileVisit → List (List ℕ)
pages [] vs = []
pages (k ∷ ks) vs = page k vs ++ pages ks (drop page_visits vs)

-- the number of pages that hold n visits: n / 48 rounded up, and at least one
abbrev pub page_count : ℕ → ℕ
page_count n = max 1 ((n + 47) / page_visits)

-- the lines of a sheet: its pages are numbered from 1 on
unfoldable pub sheet_lines : List FileVisit → List (List ℕ)
sheet_lines vs = pages (range 1 (page_count (length vs))) vs

-- the lines one after the other, or the listing's line for a refused file
abbrev pub sheet_report : Outcome (List FileVisit) → List ℕ
sheet_report (accepted vs) = join (sheet_lines vs)
sheet_report (refused n values) = refused_text n

-- the text that print_sheet prints
unfoldable pub sheet : List ℕ → List ℕ
sheet file = sheet_report (visits_outcome file)
