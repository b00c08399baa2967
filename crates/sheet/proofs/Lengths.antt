-- Every line of a sheet has room where the listing's longest line has, whatever the fields of its visit, and none is empty.
-- Assumes nothing.
use Rattle.std.specs.Prelude.{Option, Some, None}
use Rattle.std.proofs.Common.{ℕ, ◌<◌, ◌≤◌, List, [], ◌∷◌, ◌++◌, length, arith, length-append}
use Rattle.visits.specs.declared.file_walks.FileVisit.{FileVisit}
use Rattle.text.specs.Ascii.{line_feed, blank}
use Rattle.text.specs.Decimal.{decimal, signed_decimal, number_text, longest_number, longest_signed}
use Rattle.text.specs.Columns.{right, aligned}
use Rattle.text.proofs.Puts.{four_longest}
use Rattle.text.proofs.Numbers.{number_longest}
use Rattle.text.proofs.Aligned.{number-aligned_longest, signed_aligned_longest}
use Rattle.listing.specs.Listing.{refused_word, refused_text, longest_line}
use Rattle.sheet.specs.Sheet.{in_columns, across, heading, visit_line, page_line}
use Rattle.sheet.specs.Lines.{step_line}

-- ---- none is longer than the listing's longest

pub refused-short : (n : ℕ) → length (refused_text n) ≤ longest_line
unfolding refused_text
refused-short n = omega (arith, length-append refused_word (number_text n line_feed), number_longest n line_feed)

pub heading-short : length heading ≤ longest_line
unfolding in_columns right
heading-short = omega arith

pub page-short : (k : ℕ) → length (page_line k) ≤ longest_line
unfolding across
page-short k = omega (arith, number-aligned_longest 27 k line_feed)

visit-short : (v : FileVisit) → length (visit_line v) ≤ longest_line
unfolding visit_line in_columns
visit-short v =
    four_longest longest_number longest_number longest_signed longest_signed (aligned 4 (decimal v.number) blank)
    (aligned 4 (decimal v.index) blank) (aligned 8 (signed_decimal v.x) blank) (aligned 8 (signed_decimal v.y) line_feed)
    (number-aligned_longest 4 v.number blank) (number-aligned_longest 4 v.index blank) (signed_aligned_longest 8 v.x blank)
    (signed_aligned_longest 8 v.y line_feed)

pub step-short : (s : Option FileVisit) → length (step_line s) ≤ longest_line
unfolding across right
step-short (Some v) = visit-short v
step-short None = omega arith

-- ---- and none is empty

aligned-some : (w : ℕ) (t : List ℕ) (last : ℕ) → 0 < length (aligned w t last)
aligned-some w t last = omega (arith, length-append (right w t) (last ∷ []))

across-some : (t : List ℕ) → 0 < length (across t)
unfolding across
across-some t = aligned-some 27 t line_feed

row-some : (a b c d : List ℕ) → 0 < length (in_columns a b c d)
unfolding in_columns
row-some a b c d =
    let rest = aligned 4 b blank ++ (aligned 8 c blank ++ aligned 8 d line_feed) in
    omega (arith, length-append (aligned 4 a blank) rest, aligned-some 4 a blank)

pub refused-some : (n : ℕ) → 0 < length (refused_text n)
unfolding refused_text
refused-some n = omega (arith, length-append refused_word (number_text n line_feed))

pub heading-some : 0 < length heading
heading-some = row-some _ _ _ _

pub page-some : (k : ℕ) → 0 < length (page_line k)
page-some k = across-some (decimal k)

pub step-some : (s : Option FileVisit) → 0 < length (step_line s)
unfolding visit_line
step-some (Some v) = row-some _ _ _ _
step-some None = across-some []
