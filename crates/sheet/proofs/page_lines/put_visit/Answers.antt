-- `put_visit`: the four fields are put one behind the other, and each has room.
-- Assumes nothing.
use Rattle.std.proofs.Common.{ℤ, subst, w32, SFits, rules}
use mir.ValLaws.{to_z-of_z}
use Rattle.text.specs.Ascii.{line_feed, blank}
use Rattle.text.specs.Decimal.{decimal, signed_decimal, longest_number, longest_signed}
use Rattle.text.specs.Columns.{aligned}
use Rattle.text.proofs.Puts.{WritesIfRoom, four_put}
use Rattle.text.proofs.Aligned.{number-aligned_longest, signed_aligned_longest}
use Rattle.sheet.specs.Sheet.{in_columns, visit_line}
use Rattle.sheet.proofs.page_lines.put_visit.Goals as goal

pub returns : goal.returns
unfolding visit_line in_columns
returns c =
    let a = c.args in
    let v = a.visit in
    let n = c.right_number-second in
    let i = c.right_number-third in
    let x = c.right_number-fourth in
    let y = c.right_number in
    let fx : SFits w32 v.x = search rules in
    let fy : SFits w32 v.y = search rules in
    let both = four_put longest_number longest_number longest_signed longest_signed (aligned 4 (decimal v.number) blank)
    (aligned 4 (decimal v.index) blank) (aligned 8 (signed_decimal v.x) blank) (aligned 8 (signed_decimal v.y) line_feed)
    (number-aligned_longest 4 v.number blank) (number-aligned_longest 4 v.index blank) (signed_aligned_longest 8 v.x blank)
    (signed_aligned_longest 8 v.y line_feed) a.out.now a.at n.result n.new.out i.result i.new.out
    x.result x.new.out y.result y.new.out c.requires (n.ensures.end, n.ensures.text) (i.ensures.end, i.ensures.text)
    (subst (λ (z : ℤ). WritesIfRoom longest_signed i.new.out i.result (aligned 8 (signed_decimal z) blank) x.result
    x.new.out) (to_z-of_z w32 v.x fx) (x.ensures.end, x.ensures.text))
    (subst (λ (z : ℤ). WritesIfRoom longest_signed x.new.out x.result (aligned 8 (signed_decimal z) line_feed) y.result
    y.new.out) (to_z-of_z w32 v.y fy) (y.ensures.end, y.ensures.text)) in record { end = both.0; text = both.1 }
