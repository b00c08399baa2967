-- A sheet of five visits, computed from the definition and set against text that a Python script has made: no reader must rely on it.
-- Assumes nothing.
use Rattle.std.proofs.Common.{◌≡◌, ℕ, List, [], ◌∷◌, ◌++◌, length, replicate, ℤ, pos, negsuc, refl}
use Rattle.ranges.specs.Range.{range}
use Rattle.visits.specs.declared.file_walks.FileVisit.{FileVisit}
use Rattle.text.specs.Ascii.{line_feed, blank}
use Rattle.text.specs.Decimal.{decimal_in, number_text, signed_text}
use Rattle.text.specs.Columns.{right}
use Rattle.text.specs.Pieces.{join}
use Rattle.listing.specs.Listing.{header, line, lines}
use Rattle.sheet.specs.Sheet.{in_columns, across, visit_line, visit_lines, page, pages, page_count, sheet_lines}
use Rattle.sheet.specs.ReadBack.{cut, trim, is_blank, read_line, read_page, read_back}

abbrev at : ℕ → ℕ → ℤ → ℤ → FileVisit
at n i x y = record { number = n; index = i; x = x; y = y }

-- 01's example, 1 0 -500 0, 1 1 0 400, 1 2 -250 600, 1 3 250 200, and the widest fields, 2047 4095 -1000000 1999999
abbrev five : List FileVisit
five =
    at 1 0 (negsuc 499) (pos 0) ∷ at 1 1 (pos 0) (pos 400) ∷ at 1 2 (negsuc 249) (pos 600) ∷ at 1 3 (pos 250) (pos 200)
    ∷ at 2047 4095 (negsuc 999999) (pos 1999999) ∷ []

abbrev blanks : ℕ → List ℕ → List ℕ
blanks n text = replicate n blank ++ text

record Examples : Type 0 where
  -- the heading, five visits, 43 blank lines and the number 1
  text : join (sheet_lines five)
      ≡ (blanks 1 (114 ∷ 101 ∷ 99 ∷ blanks 2 (118 ∷ 105 ∷ 115 ∷ blanks 8 (120 ∷ blanks 8 (121 ∷ line_feed ∷ [])))))
      ++ ((blanks 3 (49 ∷ blanks 4 (48 ∷ blanks 5 (45 ∷ 53 ∷ 48 ∷ 48 ∷ blanks 8 (48 ∷ line_feed ∷ [])))))
      ++ ((blanks 3 (49 ∷ blanks 4 (49 ∷ blanks 8 (48 ∷ blanks 6 (52 ∷ 48 ∷ 48 ∷ line_feed ∷ [])))))
      ++ ((blanks 3 (49 ∷ blanks 4 (50 ∷ blanks 5 (45 ∷ 50 ∷ 53 ∷ 48 ∷ blanks 6 (54 ∷ 48 ∷ 48 ∷ line_feed ∷ [])))))
      ++ ((blanks 3 (49 ∷ blanks 4 (51 ∷ blanks 6 (50 ∷ 53 ∷ 48 ∷ blanks 6 (50 ∷ 48 ∷ 48 ∷ line_feed ∷ [])))))
      ++ ((50 ∷ 48 ∷ 52 ∷ 55 ∷ blanks 1 (52 ∷ 48 ∷ 57 ∷ 53 ∷ blanks 1 (45 ∷ 49 ∷ 48 ∷ 48 ∷ 48 ∷ 48 ∷ 48 ∷ 48 ∷
      blanks 2 (49 ∷ 57 ∷ 57 ∷ 57 ∷ 57 ∷ 57 ∷ 57 ∷ line_feed ∷ []))))
      ++ (join (replicate 43 (blanks 27 (line_feed ∷ [])))
      ++ (blanks 26 (49 ∷ line_feed ∷ []))))))))
  back : read_back (join (sheet_lines five)) ≡ header ++ lines five
  -- no visits have one page
  none : length (join (sheet_lines [])) ≡ 1400
  counts : (page_count 0 ≡ 1) × (page_count 48 ≡ 1) × (page_count 49 ≡ 2) × (page_count 97 ≡ 3)

examples : Examples
unfolding range decimal_in number_text signed_text right line lines in_columns across visit_line visit_lines page pages sheet_lines cut trim is_blank
    read_line read_page read_back
examples = record { text = refl; back = refl; none = refl; counts = (refl, refl, refl, refl) }
