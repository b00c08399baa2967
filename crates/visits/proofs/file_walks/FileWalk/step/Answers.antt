-- `FileWalk::step`: where the record has a visit left the step stays in it; else as much is to come from the walk at the next visit.
use mathlib.Core.Path.{refl, sym, ◌∙◌, subst}
use mathlib.Core.Logic.{inl}
use Rattle.visits.proofs.Coming.{to_come-outside, to_come-next}
use Rattle.visits.proofs.Steps.{Ready, gives_from}
use Rattle.visits.proofs.file_walks.FileWalk.step.Goals as goal
use Rattle.visits.proofs.file_walks.FileWalk.step.Goals.{After-step_in_record, then-self+else-not-within, else-self}

pub returns-then-not-within : goal.returns-then-not-within
returns-then-not-within c =
    let p = c.args.self.now in
    let e = to_come-outside c.args.file.now p (sym c.within.ensures ∙ c.if-not-within.true) in
    (e, e)

-- the walk from which the step is made within the record
ready : (c : After-step_in_record) → Ready c.args.file.now c.args.self.now c.if-self.self
ready c =
    let p = c.args.self.now in
    let file = c.args.file.now in
    elim c.if-self.branch [
      | then-self+else-not-within w ↦
          let next = to_come-next file p (sym w.within.ensures ∙ w.if-not-within.false) w.if-self.true in
          let at = w.at_next_visit in
          subst (Ready file p) (sym w.self-is) (record { same = next ∙ sym at.ensures.same; here = at.ensures.ready })
      | else-self w ↦
          subst (Ready file p) (sym w.self-is) (record { same = refl; here = inl w.if-self.false })
    ]

pub returns : goal.returns
returns c = gives_from c.args.file.now c.args.self.now c.if-self.self _ _ (ready (goal.at.returns c).After-step_in_record) c.step_in_record.ensures
