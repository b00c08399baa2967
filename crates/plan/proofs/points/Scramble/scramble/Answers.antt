-- `Scramble::scramble`: each axis by its own flips and shift.
use mathlib.Core.Path.{sym, ◌∙◌}
use borrow.Author.Rules.{rules}
use mir.Syntax.{w32}
use mir.Val.{Fits}
use Rattle.flips.proofs.Scrambled.{shift-left}
use Rattle.flips.proofs.Theorem as flips
use Rattle.plan.specs.Pair.{only_shift}
use Rattle.plan.proofs.Laws.{both}
use Rattle.plan.proofs.points.Scramble.scramble.Goals as goal

-- without flips both axes are as they would be without the bytes
pub returns-then-none_set : goal.returns-then-none_set
returns-then-none_set c =
    let a = c.args in
    let none = c.none_set.ensures.0 c.if-none_set.true in
    let plain = only_shift a.self.shift in
    let zeros = (flips.theorems).none_set in
    let fx : Fits w32 a.products.x = search rules in
    let fy : Fits w32 a.products.y = search rules in
    c.add.ensures
    ∙ both
    (shift-left plain.flips.x a.self.shift.x zeros.0 a.products.x fx.fits
    ∙ sym (shift-left a.self.flips.x a.self.shift.x none.0 a.products.x fx.fits))
    (shift-left plain.flips.y a.self.shift.y zeros.1 a.products.y fy.fits
    ∙ sym (shift-left a.self.flips.y a.self.shift.y none.1 a.products.y fy.fits))

pub returns : goal.returns
returns c = both c.scramble.ensures c.scramble-2.ensures
