-- `numerals::put_decimal`: the digits of n are those of n / 10000 and the four of n % 10000, and again of n / 10000.
-- Assumes nothing.
use mathlib.Core.Path.{◌≡◌}
use Prim.Native.Nat.{◌+◌, ◌/◌, ◌^◌, ◌<◌, ◌≤◌}
use native.Mathlib.Omega.{arith}
use lib.ListN.{length}
use Rattle.text.specs.Decimal.{decimal}
use Rattle.text.proofs.Parts.{length_last_four, writes_last_four}
use Rattle.text.proofs.numerals.put_decimal.Goals as goal
use Rattle.text.proofs.numerals.put_decimal.Goals.{Else-n-lt10000, Else-upper-lt10000}

four_more : (c : goal.Else-n-lt10000) → let n = c.args.n in length (decimal n) ≡ length (decimal (n / 10000)) + 4
four_more c = length_last_four c.args.n c.if-n-lt10000.false c.ranges.n.fits

small : (c : goal.Else-n-lt10000) → c.args.n / 10000 < 2 ^ 32
small c = omega (arith, c.ranges.n.fits)

eight_more : (c : goal.Else-upper-lt10000) → let m = c.args.n / 10000 in length (decimal m) ≡ length (decimal (m / 10000)) + 4
eight_more c = length_last_four (c.args.n / 10000) c.if-upper-lt10000.false ((let the_small : c.args.n / 10000 < 2 ^ 32 = omega
    (arith, c.ranges.n.fits) in the_small))

pub put_up_to_four-next-requires : goal.put_up_to_four-next-requires
put_up_to_four-next-requires c =
    record {
      n_bound = c.if-upper-lt10000.true;
      n_in_bounds = omega (arith, c.requires, four_more (goal.at.put_up_to_four-next-requires c).Else-n-lt10000);
    }

pub put_four_digits-requires : goal.put_four_digits-requires
put_four_digits-requires c =
    let u = c.put_up_to_four-next in record {
      n_bound = omega arith;
      at_in_bounds = omega (arith, c.requires, u.ensures.end, u.auto.out, four_more (goal.at.put_four_digits-requires c).Else-n-lt10000);
    }

pub returns-then-upper-lt10000 : goal.returns-then-upper-lt10000
returns-then-upper-lt10000 c =
    let a = c.args in
    let u = c.put_up_to_four-next in
    let v = c.put_four_digits in
    let both = writes_last_four a.out.now a.at a.n u.result u.new.out v.result v.new.out c.ranges.n.fits
    c.requires c.if-n-lt10000.false (u.ensures.end, u.ensures.text) (v.ensures.end, v.ensures.text) in record { end = both.0; text = both.1 }

pub put_up_to_four-second-requires : goal.put_up_to_four-second-requires
put_up_to_four-second-requires c =
    let m = four_more (goal.at.put_up_to_four-second-requires c).Else-n-lt10000 in record {
      n_bound = omega (arith, c.ranges.n.fits);
      n_in_bounds = omega (arith, c.requires, m, eight_more (goal.at.put_up_to_four-second-requires c).Else-upper-lt10000);
    }

pub put_four_digits-third-requires : goal.put_four_digits-third-requires
put_four_digits-third-requires c =
    let u = c.put_up_to_four-second in
    let m = four_more (goal.at.put_four_digits-third-requires c).Else-n-lt10000 in record {
      n_bound = omega arith;
      at_in_bounds = omega (
        arith,
        c.requires,
        u.ensures.end,
        u.auto.out,
        m,
        eight_more (goal.at.put_four_digits-third-requires
            c).Else-upper-lt10000,
      );
    }

pub put_four_digits-requires-2 : goal.put_four_digits-requires-2
put_four_digits-requires-2 c =
    let u = c.put_up_to_four-second in
    let v = c.put_four_digits-third in
    let k : length v.new.out ≡ length u.new.out = v.auto.out in
    let m = four_more (goal.at.put_four_digits-requires-2 c).Else-n-lt10000 in record {
      n_bound = omega arith;
      at_in_bounds = omega (
        arith,
        c.requires,
        u.ensures.end,
        u.auto.out,
        v.ensures.end,
        k,
        m,
        eight_more (goal.at.put_four_digits-requires-2
            c).Else-upper-lt10000,
      );
    }

pub returns : goal.returns
returns c =
    let a = c.args in
    let d = a.out.now in
    let u = c.put_up_to_four-second in
    let v = c.put_four_digits-third in
    let w = c.put_four_digits-2 in
    let room : a.at + length (decimal (a.n / 10000)) ≤ length d = omega (arith, c.requires, four_more (goal.at.returns c).Else-n-lt10000) in
    let upper = writes_last_four d a.at (a.n / 10000) u.result u.new.out v.result v.new.out (small (goal.at.returns c).Else-n-lt10000) room
    c.if-upper-lt10000.false (u.ensures.end, u.ensures.text) (v.ensures.end, v.ensures.text) in
    let both = writes_last_four d a.at a.n v.result v.new.out w.result w.new.out c.ranges.n.fits c.requires c.if-n-lt10000.false
    upper (w.ensures.end, w.ensures.text) in record { end = both.0; text = both.1 }
