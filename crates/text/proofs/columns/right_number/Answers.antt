-- `right_number`: where the column has room, its margin, the number behind it, and the byte.
use Prim.Native.Nat.{◌+◌, ◌≤◌}
use borrow.Author.Rules.{rules}
use borrow.Author.Tests.{le-leb}
use lib.ListN.{length}
use Rattle.text.specs.Columns.{aligned, longest_aligned}
use Rattle.text.proofs.Puts.{to_if_room}
use Rattle.text.proofs.Aligned.{column_written}
use Rattle.text.proofs.columns.right_number.Goals as goal

pub returns : goal.returns
returns g c =
    let a = c.args in
    let u = c.put_margin-margin in
    let v = c.put-next in
    let b = c.put_byte in
    let m = g.N.Decimal.longest in
    let t = g.N.Decimal.in_decimal a.n in
    let room : a.at + longest_aligned a.columns m ≤ length a.out.now = search rules in
    let column = column_written a.columns m t a.last (c.longest.ensures.fits a.n) a.out.now a.at c.width.result u.result u.new.out v.result v.new.out
    b.result b.new.out c.width.ensures room (u.ensures.end, u.ensures.text) (v.ensures.end, v.ensures.text) (b.ensures.end, b.ensures.text) in
    let both = to_if_room (longest_aligned a.columns m) a.out.now a.at (aligned a.columns t a.last) b.result b.new.out
    (le-leb (a.at + longest_aligned a.columns m) (length a.out.now) room) column in
    record { end = both.0; text = both.1 }
