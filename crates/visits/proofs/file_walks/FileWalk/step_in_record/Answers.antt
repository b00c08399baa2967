-- `FileWalk::step_in_record`: a position is refused exactly where the region is outside its limits.
use mathlib.Core.Path.{sym, ap, ap₂, ◌∙◌}
use borrow.Author.Tests.{le-leb, lt-leb}
use borrow.Author.Rules.{rules}
use lib.IntN.{ℤ}
use mir.Syntax.{w32}
use mir.Val.{SFits}
use mir.ValLaws.{to_z-of_z}
use Rattle.stage.specs.declared.regions.Position.{Position}
use Rattle.visits.specs.Stepping.{step_in_record}
use Rattle.visits.proofs.Coming.{refused-outside, accepted-inside}
use Rattle.visits.proofs.Steps.{stepped, step_in_record-visit}
use Rattle.visits.proofs.file_walks.FileWalk.step_in_record.Goals as goal

pub returns-then-self : goal.returns-then-self
unfolding step_in_record
returns-then-self c = sym (simp (le-leb _ _ c.if-self.true))

pub returns-in_default : goal.returns-in_default
unfolding step_in_record
returns-in_default c =
    let p = c.args.self.now in
    sym (simp (lt-leb _ _ c.if-self.false, refused-outside p.planned p.index (sym c.in_default.ensures)))

pub returns : goal.returns
unfolding step_in_record
returns c =
    let p = c.args.self.now in
    let at = c.in-Ok.at in
    let e = accepted-inside p.planned p.index (sym c.in-Ok.ensures) in
    let fx : SFits w32 at.x = search rules in
    let fy : SFits w32 at.y = search rules in
    ap₂ (λ (x y : ℤ). stepped p (record { number = p.number; index = p.index; x = x; y = y }))
    (to_z-of_z w32 at.x fx ∙ ap (λ (q : Position). q.x) (sym e.1)) (to_z-of_z w32 at.y fy ∙ ap (λ (q : Position). q.y) (sym e.1))
    ∙ sym (step_in_record-visit p c.if-self.false e.0)
