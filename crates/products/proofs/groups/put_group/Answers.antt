-- `put_group`: the words so far stand.
use Rattle.std.proofs.Common.{ℕ, map, get_or, bit_xor, sym, ap, ◌∙◌, zero-add, arith}
use Rattle.ranges.specs.Range.{range}
use Rattle.ranges.proofs.Filled.{filled_none, filled_more, filled_all}
use Rattle.digits.proofs.Two.{plus-two}
use Rattle.products.proofs.groups.put_group.Invariants.{put}
use Rattle.products.proofs.groups.put_group.Goals as goal

pub loop-i-init : goal.loop-i-init
loop-i-init c = filled_none

pub loop-i-preserved : goal.loop-i-preserved
loop-i-preserved c =
    let l = c.loop-i in
    let a = c.args in
    let x = get_or a.table.now l.i 0 in
    filled_more l.invariant (bit_xor a.word x) (sym (plus-two a.word x) ∙ ap (put a.word a.table.now) (sym (zero-add l.i))) (omega arith)

pub returns : goal.returns
returns c =
    let a = c.args in
    filled_all c.loop-i.invariant (omega arith) ∙ ap (λ (n : ℕ). map (put a.word a.table.now) (range 0 n)) c.requires.1
