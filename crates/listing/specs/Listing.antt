-- The listing of a region file, as bytes of ASCII.
use Rattle.std.specs.Prelude.{List, [], ◌∷◌, ◌++◌, ℕ, ◌+◌}
use Rattle.refusal.specs.Outcome.{Outcome, accepted, refused}
use Rattle.visits.specs.declared.file_walks.FileVisit.{FileVisit}
use Rattle.visits.specs.Visits.{visits_outcome}
use Rattle.text.specs.Ascii.{line_feed, blank}
use Rattle.text.specs.Decimal.{number_text, signed_text, longest_number, longest_signed}

-- "record visit x y" and a line feed
abbrev pub header : List ℕ
header = 114 ∷ 101 ∷ 99 ∷ 111 ∷ 114 ∷ 100 ∷ blank ∷ 118 ∷ 105 ∷ 115 ∷ 105 ∷ 116 ∷ blank ∷ 120 ∷ blank ∷ 121 ∷ line_feed ∷ []

-- "refused "
abbrev pub refused_word : List ℕ
refused_word = 114 ∷ 101 ∷ 102 ∷ 117 ∷ 115 ∷ 101 ∷ 100 ∷ blank ∷ []

-- and the number, with a line feed
unfoldable pub refused_text : ℕ → List ℕ
refused_text n = refused_word ++ number_text n line_feed

-- the length of the longest such line
abbrev pub longest_refusal : ℕ
longest_refusal = 8 + longest_number

-- the number of the record, the index and the position, a space between and a line feed behind
unfoldable pub line : FileVisit → List ℕ
line v = number_text v.number blank ++ (number_text v.index blank ++ (signed_text v.x blank ++ signed_text v.y line_feed))

-- the length of the longest line
abbrev pub longest_line : ℕ
longest_line = longest_number + longest_number + longest_signed + longest_signed

-- the lines of visits, one after the other
unfoldable pub lines : List FileVisit → List ℕ
lines [] = []
lines (v ∷ vs) = line v ++ lines vs

-- header and lines, or the refusal alone
abbrev pub report : Outcome (List FileVisit) → List ℕ
report (accepted vs) = header ++ lines vs
report (refused n values) = refused_text n

-- the text that list_visits prints
unfoldable pub listing : List ℕ → List ℕ
listing file = report (visits_outcome file)
