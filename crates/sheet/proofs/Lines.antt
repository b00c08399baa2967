-- The lines of a sheet: each has 27 columns and a line feed, and a visit's line reads back as the listing's.
-- Assumes nothing.
use Rattle.std.proofs.Common.{◌≡◌, ℕ, ◌≤◌, Bool, cond, [], length, refl, ap, ◌∙◌, append_assoc, arith}
use Rattle.visits.specs.declared.file_walks.FileVisit.{FileVisit}
use Rattle.text.specs.Decimal.{decimal, signed_decimal, number_text, signed_text}
use Rattle.text.specs.Columns.{right}
use Rattle.text.proofs.Numbers.{decimal_longest}
use Rattle.listing.specs.Listing.{line}
use Rattle.sheet.specs.Sheet.{across, heading, visit_line, blank_line, page_line}
use Rattle.sheet.specs.ReadBack.{text_at, is_blank, read_fields, read_line}
use Rattle.sheet.specs.Theorem.{Narrow, SheetLine}
use Rattle.sheet.proofs.Columns.{across-back, across-line, row_line, row_seen, fields_back}
use Rattle.sheet.proofs.Numbers.{
  decimal_four,
  signed_eight,
  decimal_solid,
  signed_solid,
  decimal_seen,
  decimal-printable,
  signed_printable,
}

-- ---- the lines without visits

page-number-short : (k : ℕ) → length (decimal k) ≤ 27
page-number-short k = omega (arith, decimal_longest k)

-- the number of a page reads back from its line
pub page-number_back : (k : ℕ) → text_at 0 27 (page_line k) ≡ decimal k
page-number_back k = across-back (decimal k) (page-number-short k) (decimal_solid k)

pub page-number_is_line : (k : ℕ) → SheetLine (page_line k)
page-number_is_line k = across-line (decimal k) (page-number-short k) (decimal-printable k)

pub heading_is_line : SheetLine heading
heading_is_line = row_line _ _ _ _ (omega arith) (omega arith) (omega arith) (omega arith) (search arith) (search arith) (search arith) (search arith)

pub blank_is_line : SheetLine blank_line
blank_is_line = across-line [] (omega arith) tt

-- a blank line is nothing
pub blank-back : read_line blank_line ≡ []
unfolding across right read_line is_blank
blank-back = refl

-- ---- a visit

module _ (v : FileVisit) (n : Narrow v) where
  number_four : length (decimal v.number) ≤ 4
  number_four = let h = n.number in decimal_four v.number (omega (arith, h))

  pub visit_is_line : SheetLine (visit_line v)
  unfolding visit_line
  visit_is_line =
      row_line _ _ _ _ number_four (decimal_four v.index n.index) (signed_eight v.x n.x) (signed_eight v.y n.y)
      (decimal-printable v.number) (decimal-printable v.index) (signed_printable v.x) (signed_printable v.y)

  -- read by its columns it is the listing's line
  pub visit-back : read_line (visit_line v) ≡ line v
  unfolding visit_line read_line line number_text signed_text
  visit-back =
      let four = number_four in
      let a = decimal v.number in
      let b = decimal v.index in
      let c = signed_decimal v.x in
      let d = signed_decimal v.y in
      let hb = decimal_four v.index n.index in
      let hc = signed_eight v.x n.x in
      let hd = signed_eight v.y n.y in
      ap (λ (s : Bool). cond s [] (read_fields (visit_line v))) (row_seen a b c d four hb hc hd (decimal_seen v.number))
      ∙ fields_back a b c d four hb hc hd (decimal_solid v.number) (decimal_solid v.index) (signed_solid v.x) (signed_solid v.y)
      ∙ simp append_assoc
