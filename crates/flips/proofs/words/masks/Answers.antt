-- `masks`: after eight bits the tree has the masks.
use mathlib.Core.Path.{sym, ap, ◌∙◌}
use Prim.Native.Nat.{◌+◌, ◌*◌, ◌^◌}
use native.Mathlib.Nat.{zero-add}
use native.Mathlib.Omega.{arith}
use lib.Bits.{bit_xor}
use lib.ListN.{get_or}
use Rattle.ranges.proofs.Filled.{filled_none, filled_more}
use Rattle.flips.specs.Scramble.{mask}
use Rattle.flips.proofs.Tree.{leaf}
use Rattle.flips.proofs.words.masks.Goals as goal

pub loop-v-init : goal.loop-v-init
loop-v-init c = filled_none

pub overflow_mul-mask : goal.overflow_mul-mask
overflow_mul-mask c =
    let tree = c.added_on_the_way-tree in
    let small = (leaf c.args.flips tree.result tree.ensures c.loop-v.v c.args.shift (omega arith)).0 in
    omega arith

pub loop-v-preserved : goal.loop-v-preserved
loop-v-preserved c =
    let l = c.loop-v in
    let a = c.args in
    let tree = c.added_on_the_way-tree in
    let made = (leaf a.flips tree.result tree.ensures l.v a.shift (omega arith)).1 in
    filled_more l.invariant (bit_xor (get_or tree.result (255 + l.v) 0 * 2 ^ 24) a.shift) (made ∙ ap (mask a.flips a.shift) (sym (zero-add l.v)))
    (omega arith)
