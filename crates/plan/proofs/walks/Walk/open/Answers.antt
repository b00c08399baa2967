-- `Walk::open`: the one test decides.
use mathlib.Core.Path.{sym, ◌∙◌}
use mathlib.Core.List.{[]}
use Rattle.refusal.proofs.First.{first-none, first-refuses, first_passes}
use Rattle.plan.proofs.walks.Walk.open.Goals as goal

pub returns-then-goes_past : goal.returns-then-goes_past
returns-then-goes_past c = sym (first-refuses _ 9 [] (sym c.goes_past.ensures ∙ c.if-goes_past.true))

pub returns : goal.returns
returns c = sym (first_passes _ 9 [] (sym c.goes_past.ensures ∙ c.if-goes_past.false) ∙ first-none _)
