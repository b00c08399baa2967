-- `Cursor::open`: by the outcome of opening the file, all pages are to come, or the refusal alone. The pages of an accepted file are few enough
-- to be numbered by words.
use Rattle.std.proofs.Common.{◌≡◌, ℕ, ◌^◌, ◌<◌, ◌≤◌, List, length, sym, ap, ◌∙◌, arith}
use Rattle.refusal.specs.Outcome.{accepted}
use Rattle.region_file.specs.Judge.{no_further_tests}
use Rattle.visits.specs.declared.file_walks.FileVisit.{FileVisit}
use Rattle.visits.specs.Visits.{visits_outcome}
use Rattle.visits.specs.FileWalk.{visits_to_come}
use Rattle.listing.specs.Listing.{refused_text}
use Rattle.sheet.specs.Sheet.{page_count, sheet_report, sheet}
use Rattle.sheet.specs.Cursor.{from_place}
use Rattle.sheet.proofs.Count.{judged, accepted-pages}
use Rattle.sheet.proofs.Coming.{pages_from-one}
use Rattle.sheet.proofs.cursors.Cursor.open.Goals as goal

-- the pages of an accepted file
few : (file : List ℕ) (vs : List FileVisit) → visits_outcome file ≡ accepted vs → page_count (length vs) < 2 ^ 32
few file vs e =
    let j = judged file vs e in
    let p : page_count (length vs) ≤ 174678 = rw j.1 at (accepted-pages no_further_tests file j.0) in
    omega (arith, p)

pub returns-in-Ok : goal.returns-in-Ok
unfolding from_place sheet
returns-in-Ok c =
    let file = c.args.file.now in
    let vs = visits_to_come file c.in-Ok.walk in
    pages_from-one vs (few file vs (sym c.in-Ok.ensures)) ∙ ap sheet_report c.in-Ok.ensures

pub returns-in-Err : goal.returns-in-Err
unfolding from_place sheet
returns-in-Err c = ap refused_text c.number.ensures ∙ ap sheet_report c.in-Err.ensures
