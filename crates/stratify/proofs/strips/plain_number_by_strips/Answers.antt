-- `plain_number_by_strips`: the strips of both axes, joined whole.
use mathlib.Core.Path.{◌≡◌, ap₂, ◌∙◌}
use Prim.Native.Nat.{ℕ, ◌+◌, ◌-◌, ◌*◌, ◌^◌}
use native.Mathlib.Omega.{arith}
use borrow.Author.Rules.{rules}
use mir.Syntax.{w32}
use mir.Val.{Fits}
use Rattle.net.specs.Elimination.{serial}
use Rattle.word.proofs.Joined.{joined-whole}
use Rattle.stratify.specs.Strips.{plain_number}
use Rattle.stratify.proofs.LedBack.{strip_lt, number_lt}
use Rattle.stratify.proofs.strips.plain_number_by_strips.Goals as goal
use Rattle.stratify.proofs.strips.plain_number_by_strips.Goals.{After-plain_strip-r}

-- the two strips by column and row
made : (c : goal.After-plain_strip-r) → let a = c.args in
    c.plain_strip-c.result * 2 ^ (a.shape.m - a.shape.a) + c.plain_strip-r.result ≡ plain_number a.scramble a.shape.m a.shape.a a.column a.row
unfolding serial
made c =
    let a = c.args in
    ap₂ (λ (u v : ℕ). u * 2 ^ (a.shape.m - a.shape.a) + v) c.plain_strip-c.ensures c.plain_strip-r.ensures

pub returns : goal.returns
unfolding serial
returns c =
    let a = c.args in
    let fx : Fits w32 a.scramble.shift.x = search rules in
    let fy : Fits w32 a.scramble.shift.y = search rules in
    let (hc, hr) = c.requires.column in
    let wide = a.shape.wide in
    let fits = a.shape.fits in
    let small = number_lt a.shape.m a.shape.a _ _ wide fits
    (strip_lt a.scramble.flips.x a.scramble.shift.x a.shape.a a.column (omega arith) hc fx.fits)
    (strip_lt a.scramble.flips.y a.scramble.shift.y (a.shape.m - a.shape.a) a.row (omega arith) hr fy.fits) in
    joined-whole _ _ _ c.join.ensures (rw (made (goal.at.returns c).After-plain_strip-r) small) ∙ made (goal.at.returns c).After-plain_strip-r
