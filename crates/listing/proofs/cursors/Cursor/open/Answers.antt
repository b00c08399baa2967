-- `Cursor::open`: by the outcome of opening the file, the header and all visits are to come, or the refusal alone.
use mathlib.Core.Path.{ap, ap₂, ◌∙◌}
use mathlib.Core.List.{List, ◌++◌, append-nil}
use Prim.Native.Nat.{ℕ}
use Rattle.refusal.specs.Refusal.{number}
use Rattle.visits.specs.declared.file_walks.FileVisit.{FileVisit}
use Rattle.visits.specs.FileWalk.{visits_to_come}
use Rattle.visits.proofs.Coming.{ended_comes}
use Rattle.listing.specs.Listing.{refused_text, lines, report, listing}
use Rattle.listing.specs.Cursor.{to_come}
use Rattle.listing.proofs.Putting.{lines_none}
use Rattle.listing.proofs.cursors.Cursor.open.Goals as goal

pub returns-in-Ok : goal.returns-in-Ok
unfolding to_come listing
returns-in-Ok c = ap report c.in-Ok.ensures

pub returns-in-Err : goal.returns-in-Err
unfolding to_come listing
returns-in-Err c =
    let file = c.args.file.now in
    let why = c.in-Err.why in
    ap₂ (λ (n : ℕ) (vs : List FileVisit). refused_text n ++ lines vs) c.number.ensures
    (ap (visits_to_come file) c.ended.ensures ∙ ended_comes file)
    ∙ ap (λ (t : List ℕ). refused_text (number why) ++ t) lines_none
    ∙ append-nil (refused_text (number why))
    ∙ ap report c.in-Err.ensures
