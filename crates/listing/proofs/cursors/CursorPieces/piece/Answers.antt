-- `CursorPieces::piece`: the lead's text and the lines put behind it are what was to come, up to what is to come from the cursor past them.
use mathlib.Core.Path.{◌≡◌, refl, sym, ap, ◌∙◌}
use Prim.Native.Nat.{zero-le}
use native.Mathlib.Nat.{zero-add}
use native.Mathlib.Omega.{arith}
use lib.ListN.{length, take}
use lib.Seq.{length-take-le}
use Rattle.visits.specs.FileWalk.{visits_to_come}
use Rattle.text.proofs.Puts.{Writes}
use Rattle.text.proofs.Filling.{joined, beyond, behind}
use Rattle.listing.specs.Listing.{lines}
use Rattle.listing.specs.Cursor.{lead_text, to_come}
use Rattle.listing.proofs.Putting.{lines_none}
use Rattle.listing.proofs.cursors.CursorPieces.piece.Goals as goal
use Rattle.listing.proofs.cursors.CursorPieces.piece.Goals.{After-put_lines}

-- the lead's text is put at the start
led : (c : After-put_lines) → Writes c.args.out.now 0 (lead_text c.args.self.now.lead) c.put_lead-at.result c.put_lead-at.new.out
led c = (c.put_lead-at.ensures.end ∙ sym (zero-add _), c.put_lead-at.ensures.text)

pub returns-clause-piece : goal.returns-clause-piece
unfolding to_come
returns-clause-piece c =
    let d = c.args.out.now in
    let s = lead_text c.args.self.now.lead in
    let u = c.put_lead-at in
    let l = c.put_lines in
    let long : length (take l.result l.new.out) ≡ l.result = length-take-le l.result l.new.out l.ensures.fits in record {
      joins = l.ensures.joins ∙ joined d u.new.out 0 u.result s zero-le (led (goal.at.returns-clause-piece c).After-put_lines)
          (lines (visits_to_come c.args.file.now c.args.self.now.walk));
      stops = λ h. ap lines (l.ensures.stops (omega (arith, h, long))) ∙ lines_none;
    }

pub returns-clause-rest : goal.returns-clause-rest
returns-clause-rest c =
    let d = c.args.out.now in
    let u = c.put_lead-at in
    let l = c.put_lines in
    l.ensures.beyond
    ∙ behind l.result u.result u.new.out d l.ensures.on
    (beyond d u.new.out 0 u.result (lead_text c.args.self.now.lead) zero-le (led (goal.at.returns-clause-rest c).After-put_lines) d refl)
