-- Listing cursors as words. All words stand for one.
use Rattle.std.specs.Prelude.{cond, List, ℕ, eqb, get_or, drop}
use Rattle.listing.specs.declared.cursors.Lead.{Lead}
use Rattle.listing.specs.declared.cursors.Lead.TheVariants as lead
use Rattle.listing.specs.declared.cursors.Cursor.{Cursor}
use Rattle.file_words.specs.Words.{walk_of}

-- what stands before the lines, by two words: nothing, the header, or the number of a refusal
abbrev pub lead_of : ℕ → ℕ → Lead
lead_of kind number = cond (eqb kind 0) lead.Nothing (cond (eqb kind 1) lead.Header (lead.Refused number))

-- the cursor that words stand for: two for what stands before the lines, and then those of a walk
abbrev pub cursor_of : List ℕ → Cursor
cursor_of ws = record { lead = lead_of (get_or ws 0 0) (get_or ws 1 0); walk = walk_of (drop 2 ws) }
