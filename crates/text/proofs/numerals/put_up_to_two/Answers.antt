-- `numerals::put_up_to_two`: below 10 a number has one digit, and from there on two.
-- Assumes nothing.
use mathlib.Core.Path.{sym, ap, subst}
use mathlib.Core.List.{List}
use Prim.Native.Nat.{ℕ}
use native.Mathlib.Omega.{arith}
use lib.ListN.{length}
use Rattle.text.proofs.Parts.{decimal-below_10, decimal-below_100}
use Rattle.text.proofs.Puts.{Writes}
use Rattle.text.proofs.numerals.put_up_to_two.Goals as goal

pub put_byte-requires : goal.put_byte-requires
put_byte-requires c =
    let a = c.args in
    omega (arith, c.requires.n_in_bounds, ap length (decimal-below_10 a.n c.if-n-lt10.true))

pub returns-then-n-lt10 : goal.returns-then-n-lt10
returns-then-n-lt10 c =
    let a = c.args in
    let u = c.put_byte in
    let e = decimal-below_10 a.n c.if-n-lt10.true in
    let both = subst (λ (s : List ℕ). Writes a.out.now a.at s u.result u.new.out) (sym e) (u.ensures.end, u.ensures.text) in
    record { end = both.0; text = both.1 }

pub put_two_digits-requires : goal.put_two_digits-requires
put_two_digits-requires c =
    let e = ap length (decimal-below_100 c.args.n c.if-n-lt10.false c.requires.n_bound) in record {
      n_bound = c.requires.n_bound;
      at_in_bounds = omega (arith, c.requires.n_in_bounds, e);
    }

pub returns : goal.returns
returns c =
    let a = c.args in
    let u = c.put_two_digits in
    let both = subst (λ (s : List ℕ). Writes a.out.now a.at s u.result u.new.out)
    (sym (decimal-below_100 a.n c.if-n-lt10.false c.requires.n_bound))
    (u.ensures.end, u.ensures.text) in record { end = both.0; text = both.1 }
