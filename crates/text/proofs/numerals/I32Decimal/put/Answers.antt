-- `put` of a signed number: the sign, and behind it the magnitude.
use mathlib.Core.Path.{◌≡◌, ap, ◌∙◌, subst}
use Prim.Native.Nat.{ℕ}
use native.Mathlib.Omega.{arith}
use lib.IntN.{ℤ, nat_abs}
use lib.ListN.{length-append}
use mir.Syntax.{w32}
use mir.Val.{to_z, of_z}
use mir.ValLaws.{to_z-of_z}
use Rattle.text.specs.Decimal.{decimal, sign}
use Rattle.text.proofs.Puts.{Writes, writes_then}
use Rattle.text.proofs.numerals.I32Decimal.put.Goals as goal

pub returns-clause-text : goal.returns-clause-text
returns-clause-text c =
    let a = c.args in
    let u = c.put_sign-next in
    let v = c.put_decimal in
    let e : to_z w32 (of_z w32 a.self) ≡ a.self = to_z-of_z w32 a.self c.ranges.self in
    let signed = subst (λ (z : ℤ). Writes a.out.now a.at (sign z) u.result u.new.out) e (u.ensures.end, u.ensures.text) in
    let digits = subst (λ (k : ℕ). Writes u.new.out u.result (decimal k) v.result v.new.out) (c.unsigned_abs.ensures ∙ ap nat_abs e)
    (v.ensures.end, v.ensures.text) in
    (writes_then a.out.now a.at (sign a.self) (decimal (nat_abs a.self)) u.result u.new.out v.result v.new.out signed digits
    (omega (arith, c.requires, length-append (sign a.self) (decimal (nat_abs a.self))))).1
