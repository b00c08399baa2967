-- `in_parts`: each part is filled where the one before it ends.
use Rattle.std.proofs.Common.{◌+◌, ◌-◌, ◌*◌, ◌/◌, length, refl, arith}
use borrow.Rule.Slice.PartMut.{put_mid}
use Rattle.ranges.proofs.Filled.{Filled, filled_none, filled-lent, filled_all}
use Rattle.products.specs.Products.{product_masked}
use Rattle.products.proofs.fills.in_parts.Goals as goal
use Rattle.products.proofs.fills.in_parts.Goals.{After-in_groups}

-- what the buffer holds after the first part and the groups
groups_filled : (c : After-in_groups) → let a = c.args in
    let head = c.ahead-head.result in
    let whole = head + (length a.out.now - head) / 64 * 64 in
    Filled (product_masked a.masking.bits a.masking.masks.now a.axis.columns) a.start whole a.out.now
    (put_mid head (whole - head) (put_mid 0 head a.out.now c.singly.new.out) c.in_groups.new.out)
groups_filled c =
    let a = c.args in
    let head = c.ahead-head.result in
    let within = c.ahead-head.ensures.0 in
    let whole = head + (length a.out.now - head) / 64 * 64 in
    let headed = filled-lent filled_none head head a.start c.singly.new.out (omega arith) c.singly.ensures (omega arith) within in
    filled-lent headed (whole - head) whole (a.start + head) c.in_groups.new.out refl c.in_groups.ensures (omega arith) (omega arith)

pub returns-then-whole-n : goal.returns-then-whole-n
returns-then-whole-n c =
    let now = groups_filled (goal.at.returns-then-whole-n c).After-in_groups in
    filled_all (filled-lent now _ (length c.args.out.now) _ c.singly-then-whole-n.new.out refl c.singly-then-whole-n.ensures
    (omega (arith, now.long, c.ahead-head.ensures.0)) (omega arith)) refl

pub returns-else-whole-n : goal.returns-else-whole-n
returns-else-whole-n c = filled_all (groups_filled (goal.at.returns-else-whole-n c).After-in_groups) (omega (arith, c.if-whole-n.false))
