-- `Shift::add`: without flips only the shift is left.
use borrow.Author.Rules.{rules}
use mir.Syntax.{w32}
use mir.Val.{Fits}
use Rattle.flips.specs.Load.{no_flips}
use Rattle.flips.proofs.Scrambled.{only-shifted}
use Rattle.flips.proofs.Theorem as flips
use Rattle.plan.proofs.Laws.{both}
use Rattle.plan.proofs.points.Shift.add.Goals as goal

pub returns : goal.returns
returns c =
    let a = c.args in
    let fx : Fits w32 a.products.x = search rules in
    let fy : Fits w32 a.products.y = search rules in
    both
    (only-shifted no_flips.x a.self.x (flips.theorems).none_set.0 a.products.x fx.fits)
    (only-shifted no_flips.y a.self.y (flips.theorems).none_set.1 a.products.y fy.fits)
