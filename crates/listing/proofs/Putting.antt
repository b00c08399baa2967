-- The lines of a listing: how long they are.
-- Assumes nothing.
use mathlib.Core.Path.{◌≡◌, refl}
use mathlib.Core.List.{List, [], ◌∷◌, ◌++◌}
use Prim.Native.Nat.{◌≤◌, ◌<◌}
use native.Mathlib.Omega.{arith}
use lib.ListN.{length, length-append}
use Rattle.visits.specs.declared.file_walks.FileVisit.{FileVisit}
use Rattle.text.specs.Ascii.{line_feed, blank}
use Rattle.text.specs.Decimal.{number_text, signed_text, longest_number, longest_signed}
use Rattle.text.proofs.Puts.{four_longest}
use Rattle.text.proofs.Numbers.{number-length, number_longest, signed_longest}
use Rattle.listing.specs.Listing.{refused_word, refused_text, line, longest_line, lines}
use Rattle.listing.specs.declared.cursors.Lead.{Lead}
use Rattle.listing.specs.declared.cursors.Lead.TheVariants as lead
use Rattle.listing.specs.Cursor.{lead_text}

pub line_longest : (v : FileVisit) → length (line v) ≤ longest_line
unfolding line
line_longest v =
    four_longest longest_number longest_number longest_signed longest_signed (number_text v.number blank) (number_text v.index blank)
    (signed_text v.x blank) (signed_text v.y line_feed) (number_longest v.number blank) (number_longest v.index blank)
    (signed_longest v.x blank) (signed_longest v.y line_feed)

pub line-some : (v : FileVisit) → 0 < length (line v)
unfolding line
line-some v =
    let s₁ = number_text v.number blank in
    let rest = number_text v.index blank ++ (signed_text v.x blank ++ signed_text v.y line_feed) in
    omega (arith, length-append s₁ rest, number-length v.number blank)

-- what stands before the lines has room where a line has
pub lead_longest : (k : Lead) → length (lead_text k) ≤ longest_line
unfolding refused_text
lead_longest lead.Nothing = omega arith
lead_longest lead.Header = omega arith
lead_longest (lead.Refused n) = omega (arith, length-append refused_word (number_text n line_feed), number_longest n line_feed)

pub lines_none : lines [] ≡ []
unfolding lines
lines_none = refl

pub lines_more : (v : FileVisit) (vs : List FileVisit) → lines (v ∷ vs) ≡ line v ++ lines vs
unfolding lines
lines_more v vs = refl
