-- What is still to come from a cursor, whatever its fields and the file.
use Rattle.std.specs.Prelude.{List, [], ◌++◌, ℕ}
use Rattle.visits.specs.FileWalk.{visits_to_come}
use Rattle.text.specs.Pieces.{Piece}
use Rattle.listing.specs.declared.cursors.Lead.{Lead}
use Rattle.listing.specs.declared.cursors.Lead.TheVariants as lead
use Rattle.listing.specs.declared.cursors.Cursor.{Cursor}
use Rattle.listing.specs.Listing.{header, refused_text, lines, longest_line}

-- what stands before the lines
abbrev pub lead_text : Lead → List ℕ
lead_text lead.Nothing = []
lead_text lead.Header = header
lead_text (lead.Refused n) = refused_text n

-- and then the lines of the visits still to come
unfoldable pub to_come : List ℕ → Cursor → List ℕ
to_come file c = lead_text c.lead ++ lines (visits_to_come file c.walk)

-- what a call of `piece` gives in a buffer of `room` bytes: the piece, and the cursor past it
abbrev pub ListingPiece : List ℕ → Cursor → Cursor → List ℕ → ℕ → Type 0
ListingPiece file = Piece (to_come file) longest_line
