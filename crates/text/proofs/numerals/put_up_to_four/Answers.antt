-- `numerals::put_up_to_four`: from 100 on the digits of n are those of n / 100 and the two of n % 100.
-- Assumes nothing.
use Prim.Native.Nat.{◌≤◌}
use native.Mathlib.Omega.{arith}
use Rattle.text.proofs.Parts.{length_last_two, writes_last_two}
use Rattle.text.proofs.numerals.put_up_to_four.Goals as goal

pub put_up_to_two-next-requires : goal.put_up_to_two-next-requires
put_up_to_two-next-requires c =
    let n = c.args.n in
    let big = c.ranges.n.fits in
    let low : 100 ≤ n = omega (arith, c.if-n-lt100.false) in record {
      n_bound = omega (arith, c.requires.n_bound);
      n_in_bounds = omega (arith, c.requires.n_in_bounds, length_last_two n low big);
    }

pub put_two_digits-requires : goal.put_two_digits-requires
put_two_digits-requires c =
    let n = c.args.n in
    let u = c.put_up_to_two-next in
    let low : 100 ≤ n = omega (arith, c.if-n-lt100.false) in
    let l = length_last_two n low c.ranges.n.fits in record {
      n_bound = omega arith;
      at_in_bounds = omega (arith, c.requires.n_in_bounds, u.ensures.end, u.auto.out, l);
    }

pub returns : goal.returns
returns c =
    let a = c.args in
    let u = c.put_up_to_two-next in
    let v = c.put_two_digits in
    let both = writes_last_two a.out.now a.at a.n u.result u.new.out v.result v.new.out c.ranges.n.fits
    c.requires.n_in_bounds c.if-n-lt100.false (u.ensures.end, u.ensures.text) (v.ensures.end, v.ensures.text) in
    record { end = both.0; text = both.1 }
