-- What users rely on: one term of `Theorems`.
-- Assumes nothing.
use Rattle.std.proofs.Common.{◌≡◌, ℕ, true, List, [], ◌∷◌, ◌++◌, map, length, replicate, sym, refl, ap, ◌∙◌}
use Rattle.ranges.specs.Below.{Below}
use Rattle.ranges.specs.Each.{Each}
use Rattle.refusal.specs.Outcome.{Outcome, accepted, refused}
use Rattle.region_file.specs.Records.{zeros}
use Rattle.region_file.specs.Judge.{no_further_tests}
use Rattle.visits.specs.declared.file_walks.FileVisit.{FileVisit}
use Rattle.visits.specs.Visits.{visits_outcome}
use Rattle.visits.specs.Base.{base_visits_outcome}
use Rattle.visits.proofs.Theorem as visits
use Rattle.text.specs.Ascii.{line_feed, blank}
use Rattle.text.specs.Columns.{right}
use Rattle.text.specs.Pieces.{join}
use Rattle.text.proofs.Joins.{so_far, whole}
use Rattle.listing.specs.Listing.{header, lines, report, listing, longest_line}
use Rattle.sheet.specs.Sheet.{in_columns, across, heading, blank_line, sheet_lines, sheet_report, sheet}
use Rattle.sheet.specs.ReadBack.{stretches, read_page, read_back}
use Rattle.sheet.specs.Cursor.{sheet_to_come}
use Rattle.sheet.specs.Theorem.{Narrow, heading_bytes, SheetOf, Theorems}
use Rattle.sheet.proofs.Count.{judged, accepted-pages}
use Rattle.sheet.proofs.Lines.{page-number_back}
use Rattle.sheet.proofs.Pages.{page_count-fewest, lines_again, sheet-page, sheet-long, sheet-each, sheet-bytes, sheet-back}
use Rattle.sheet.proofs.Bounds.{visits-narrow}

-- visits that have room, as a sheet and back
back : (vs : List FileVisit) → Each Narrow vs → read_back (join (sheet_lines vs)) ≡ header ++ lines vs
unfolding read_back
back vs h =
    ap (λ (ls : List (List ℕ)). header ++ join (map read_page (stretches 50 ls))) (lines_again (sheet_lines vs) (sheet-each vs h))
    ∙ ap (λ (l : List ℕ). header ++ l) (sheet-back vs h)

sheets : (file : List ℕ) (vs : List FileVisit) → Below 256 file → visits_outcome file ≡ accepted vs → SheetOf file vs
unfolding sheet listing
sheets file vs bytes e =
    let j = judged file vs e in
    let narrow : Each Narrow vs = rw j.1 at (visits-narrow no_further_tests file bytes j.0) in
    record {
      narrow = narrow;
      lines = sheet-each vs narrow;
      fewest_pages = page_count-fewest (length vs);
      most_pages = rw j.1 at (accepted-pages no_further_tests file j.0);
      line_count = sheet-long vs;
      byte_count = ap (λ (o : Outcome (List FileVisit)). length (sheet_report o)) e ∙ sheet-bytes vs narrow;
      numbered = sheet-page vs;
      reads_back = ap (λ (o : Outcome (List FileVisit)). read_back (sheet_report o)) e ∙ back vs narrow ∙ sym (ap report e);
    }

refusals : (file : List ℕ) (n : ℕ) (values : List ℕ) → visits_outcome file ≡ refused n values → sheet file ≡ listing file
unfolding sheet listing
refusals file n values e = ap sheet_report e ∙ sym (ap report e)

as_before : (file : List ℕ) → zeros file 8 8 ≡ true → sheet file ≡ sheet_report (base_visits_outcome file)
unfolding sheet
as_before file h = ap sheet_report ((visits.theorems).as_before file h)

heading_line : heading ≡ heading_bytes
unfolding in_columns right
heading_line = refl

blank_bytes : blank_line ≡ replicate 27 blank ++ (line_feed ∷ [])
unfolding across right
blank_bytes = refl

pub theorems : Theorems
theorems = record {
  heading_line = heading_line;
  blank_bytes = blank_bytes;
  number_line = page-number_back;
  sheets = sheets;
  refusals = refusals;
  as_before = as_before;
  so_far = λ file c d ps e run. so_far (sheet_to_come file) longest_line c d ps run ∙ e;
  whole = λ file c d f ps room e run last h. whole (sheet_to_come file) longest_line c d f ps room run last h ∙ e;
}
