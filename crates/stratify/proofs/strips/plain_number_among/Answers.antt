-- `plain_number_among`: without flips the cell's own number and what the shift adds.
use mathlib.Core.Path.{ap₂, ◌∙◌}
use borrow.Author.Rules.{rules}
use lib.Bits.{bit_xor}
use mir.Syntax.{w32}
use mir.Val.{Fits}
use Rattle.word.proofs.Joined.{joined-whole}
use Rattle.stratify.proofs.LedBack.{number_lt, number-shifted}
use Rattle.stratify.proofs.strips.plain_number_among.Goals as goal

pub returns-then-unflipped : goal.returns-then-unflipped
returns-then-unflipped c =
    let a = c.args in
    let (hc, hr) = c.requires.column in
    let (none, is) = c.requires.none_set in
    let fx : Fits w32 a.scramble.shift.x = search rules in
    let fy : Fits w32 a.scramble.shift.y = search rules in
    ap₂ bit_xor (joined-whole _ _ _ c.join.ensures (number_lt a.shape.m a.shape.a a.column a.row a.shape.wide a.shape.fits hc hr)) is
    ∙ number-shifted a.scramble a.shape.m a.shape.a a.column a.row a.shape.wide a.shape.fits hc hr (record { x = fx.fits; y = fy.fits })
    (none c.if-unflipped.true)
