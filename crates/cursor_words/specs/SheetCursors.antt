-- Sheet cursors as words. All words stand for one.
use Rattle.std.specs.Prelude.{cond, List, ℕ, eqb, get_or, drop}
use Rattle.sheet.specs.declared.cursors.Place.{Place}
use Rattle.sheet.specs.declared.cursors.Place.TheVariants as place
use Rattle.sheet.specs.declared.cursors.Cursor.{Cursor}
use Rattle.file_words.specs.Words.{walk_of}

-- the place on a page, by two words: the end, the heading, a number of lines for visits, or the number of a refusal
abbrev pub place_of : ℕ → ℕ → Place
place_of kind number =
    cond (eqb kind 0) place.End (cond (eqb kind 1) place.Heading (cond (eqb kind 2) (place.Lines number) (place.Refusal number)))

-- the cursor that words stand for: two for the place, one for the page, and then those of a walk
abbrev pub sheet_cursor_of : List ℕ → Cursor
sheet_cursor_of ws = record { place = place_of (get_or ws 0 0) (get_or ws 1 0); page = get_or ws 2 0; walk = walk_of (drop 3 ws) }
