-- `reversed`: after k turns the sum is the reversal of the lowest k bytes, and the rest are the bytes above them.
-- That the table holds the reversed bytes is one computed test, where the loop begins.
use mathlib.Core.Path.{◌≡◌, refl}
use Prim.Native.Nat.{◌+◌, ◌*◌, ◌%◌}
use native.Mathlib.Omega.{arith}
use Rattle.ranges.specs.Range.{range}
use Rattle.digits.specs.Digits.{from_digits, reversed}
use Rattle.digits.proofs.Two.{one_lt_two}
use Rattle.word.proofs.Table.{split_none, table_lt, split_more, sum_lt}
use Rattle.word.proofs.reversal.reversed.Goals as goal

pub loop-k-init : goal.loop-k-init
unfolding from_digits reversed range
loop-k-init c = (refl, split_none one_lt_two c.args.word)

pub overflow_mul-sum : goal.overflow_mul-sum
overflow_mul-sum c = let short = sum_lt one_lt_two 24 c.loop-k.invariant.1 (omega arith) in omega arith

pub overflow_cast-sum-in-loop-k : goal.overflow_cast-sum-in-loop-k
overflow_cast-sum-in-loop-k c = let l = c.loop-k in
    omega (arith, table_lt one_lt_two 8 l.invariant.0 (l.rest % 256))

pub overflow_add-sum : goal.overflow_add-sum
overflow_add-sum c = let l = c.loop-k in
    let short = sum_lt one_lt_two 24 l.invariant.1 (omega arith) in
    omega (arith, table_lt one_lt_two 8 l.invariant.0 (l.rest % 256))

pub loop-k-preserved : goal.loop-k-preserved
loop-k-preserved c = let l = c.loop-k in
    let next : 8 * l.k + 8 ≡ 8 * (l.k + 1) = omega arith in
    (l.invariant.0, rw next at (split_more one_lt_two 8 l.invariant.0 l.invariant.1))

pub returns : goal.returns
returns c = let l = c.loop-k in
    let end : 8 * l.k ≡ 32 = omega arith in
    (rw end at l.invariant.1).sum_is
