-- `Cursor::put_line`: the line of each place is the first of the text to come from there.
use Rattle.std.proofs.Common.{◌≡◌, ℕ, suc, ◌-◌, [], ◌++◌, sym, refl, ap, ◌∙◌, inl, inr, arith, w32, Fits, rules}
use Rattle.visits.specs.FileWalk.{visits_to_come}
use Rattle.text.proofs.Puts.{put_nothing, from_if_room}
use Rattle.listing.specs.Listing.{refused_text, longest_refusal}
use Rattle.sheet.specs.declared.cursors.Place.{Place}
use Rattle.sheet.specs.declared.cursors.Place.TheVariants as place
use Rattle.sheet.specs.declared.cursors.Cursor.{Cursor}
use Rattle.sheet.specs.Sheet.{heading, page_line}
use Rattle.sheet.specs.Cursor.{from_place, sheet_to_come}
use Rattle.sheet.specs.Lines.{step_line}
use Rattle.sheet.proofs.Lengths.{heading-short, heading-some, refused-short, refused-some, page-short, page-some, step-short, step-some}
use Rattle.sheet.proofs.Coming.{refusal_first, heading-first, line_first, number-first, end_comes}
use Rattle.sheet.proofs.cursors.Cursor.put_line.Goals as goal

pub returns-in-Refusal : goal.returns-in-Refusal
returns-in-Refusal c =
    let a = c.args in
    let n = c.in-Refusal.number in
    let u = c.refusal_line in
    let k = a.self.now.page in
    let vs = visits_to_come a.file.now a.self.now.walk in
    record {
      text = refused_text n;
      joins = refusal_first n k vs ∙ ap (λ (p : Place). from_place p k vs) (sym c.in-Refusal.is);
      short = refused-short n;
      some = inl (refused-some n);
      written = from_if_room longest_refusal a.out.now a.at (refused_text n) u.result u.new.out (omega (arith, c.requires))
          (u.ensures.end, u.ensures.text);
    }

pub returns-in-Heading : goal.returns-in-Heading
returns-in-Heading c =
    let a = c.args in
    let u = c.put_heading in
    let k = a.self.now.page in
    let vs = visits_to_come a.file.now a.self.now.walk in
    let word : Fits w32 k = search rules in
    record {
      text = heading;
      joins = heading-first k vs word.fits ∙ ap (λ (p : Place). from_place p k vs) (sym c.in-Heading.is);
      short = heading-short;
      some = inl heading-some;
      written = (u.ensures.end, u.ensures.text);
    }

pub returns-in-Lines-eq0 : goal.returns-in-Lines-eq0
returns-in-Lines-eq0 c =
    let file = c.args.file.now in
    let from = c.args.self.now in
    let u = c.put_page_number-len in
    let step = c.step-given in
    let none : 0 ≡ c.in-Lines-eq0.field-0 = sym c.in-Lines-eq0.field-0-test ∙ c.in-Lines-eq0.field-0-is in
    record {
      text = page_line from.page;
      joins = ap (λ (d : Cursor). page_line from.page ++ sheet_to_come file d) c.turn_page.ensures
          ∙ number-first file from.walk step.new.self step.result step.ensures from.page
          ∙ ap (λ (n : ℕ). from_place (place.Lines n) from.page (visits_to_come file from.walk)) none
          ∙ ap (λ (p : Place). from_place p from.page (visits_to_come file from.walk)) (sym c.in-Lines-eq0.is);
      short = page-short from.page;
      some = inl (page-some from.page);
      written = (u.ensures.end, u.ensures.text);
    }

pub returns-in-Lines : goal.returns-in-Lines
returns-in-Lines c =
    let file = c.args.file.now in
    let from = c.args.self.now in
    let u = c.put_step in
    let step = c.step-given in
    let lines = c.in-Lines.lines in
    let some : lines ≡ 0 → ⊥ = rw c.in-Lines.is at c.in-Lines.lines-test.1 in
    let more : suc (lines - 1) ≡ lines = omega (arith, some) in
    record {
      text = step_line step.result;
      joins = line_first file from.walk step.new.self step.result step.ensures (lines - 1) from.page
          ∙ ap (λ (n : ℕ). from_place (place.Lines n) from.page (visits_to_come file from.walk)) more
          ∙ ap (λ (p : Place). from_place p from.page (visits_to_come file from.walk)) (sym c.in-Lines.is);
      short = step-short step.result;
      some = inl (step-some step.result);
      written = (u.ensures.end, u.ensures.text);
    }

pub returns-in-End : goal.returns-in-End
returns-in-End c =
    let a = c.args in
    let k = a.self.now.page in
    let vs = visits_to_come a.file.now a.self.now.walk in
    record {
      text = [];
      joins = refl;
      short = omega arith;
      some = inr (ap (λ (p : Place). from_place p k vs) c.in-End.is ∙ end_comes k vs);
      written = (omega arith, sym (put_nothing a.out.now a.at));
    }
