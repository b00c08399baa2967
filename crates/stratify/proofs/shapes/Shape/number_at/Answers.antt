-- `number_at`: the highest bits of both words, joined whole.
use mathlib.Core.Path.{ap₂, ◌∙◌}
use Prim.Native.Nat.{ℕ, ◌+◌, ◌-◌, ◌*◌, ◌^◌}
use native.Mathlib.Omega.{arith}
use borrow.Author.Rules.{rules}
use mir.Syntax.{w32}
use mir.Val.{Fits}
use Rattle.digits.proofs.Two.{one_lt_two}
use Rattle.net.specs.Sequence.{top}
use Rattle.net.specs.Elimination.{serial}
use Rattle.net.proofs.Interval.{top_lt}
use Rattle.word.proofs.Joined.{joined-whole}
use Rattle.stratify.proofs.LedBack.{number_lt}
use Rattle.stratify.proofs.shapes.Shape.number_at.Goals as goal

pub returns : goal.returns
unfolding serial
returns c =
    let s = c.args.self in
    let d : ℕ = s.m - s.a in
    let made = ap₂ (λ (u v : ℕ). u * 2 ^ d + v) c.top.ensures c.top-2.ensures in
    let fits = s.fits in
    let fx : Fits w32 c.args.x = search rules in
    let fy : Fits w32 c.args.y = search rules in
    let small = number_lt s.m s.a (top 2 32 s.a c.args.x) (top 2 32 d c.args.y) s.wide s.fits
    (top_lt one_lt_two 32 s.a c.args.x (omega arith) fx.fits) (top_lt one_lt_two 32 d c.args.y (omega arith) fy.fits) in
    joined-whole _ _ _ c.join.ensures (rw made small) ∙ made
