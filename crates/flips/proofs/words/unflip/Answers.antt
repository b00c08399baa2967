-- `unflip`: the node is that of the bits above, as they were before the flips.
use mathlib.Core.Path.{sym, ap, ◌∙◌}
use Prim.Native.Nat.{ℕ, ◌+◌, ◌-◌, ◌*◌, ◌/◌, ◌%◌, ◌^◌, ◌≤◌, ◌<◌}
use native.Mathlib.Omega.{arith}
use Rattle.flips.proofs.FlipBits.{read_bit}
use Rattle.flips.proofs.Turn.{unflip_starts, unflip_node_lt, unflip_node_le, unflip_turn, unflip_ends}
use Rattle.flips.proofs.words.unflip.Goals as goal
use Rattle.flips.proofs.words.unflip.Goals.{After-loop-t, In-loop-t}

-- the node that is read, and the one at the end, which is a leaf
node_lt : (c : goal.In-loop-t) → c.loop-t.node < 255
node_lt c = let l = c.loop-t in let a = c.args in unflip_node_lt a.flips a.word l.t l.node (omega arith) l.invariant

node_le : (c : goal.After-loop-t) → (255 ≤ c.loop-t.node) × (c.loop-t.node < 511)
node_le c = let l = c.loop-t in let a = c.args in unflip_node_le a.flips a.word l.t l.node (omega arith) l.invariant

pub loop-t-init : goal.loop-t-init
loop-t-init c = unflip_starts c.args.flips c.args.word

pub bounds-flips-node : goal.bounds-flips-node
bounds-flips-node c =
    let l = c.loop-t in
    let a = c.args in
    let small = unflip_node_lt a.flips a.word l.t l.node (omega arith) l.invariant in
    omega arith

pub overflow_mul-node : goal.overflow_mul-node
overflow_mul-node c = let b = node_lt c in omega arith

pub overflow_add-node : goal.overflow_add-node
overflow_add-node c = let b = node_lt c in omega arith

pub overflow_add-node-in-loop-t-2 : goal.overflow_add-node-in-loop-t-2
overflow_add-node-in-loop-t-2 c = let b = node_lt c in omega arith

pub loop-t-preserved : goal.loop-t-preserved
loop-t-preserved c =
    let l = c.loop-t in
    let a = c.args in
    let n = unflip_turn a.flips a.word l.t l.node (omega arith) l.invariant in
    let e = sym (read_bit a.flips l.node) in
    ap (λ (f : ℕ). l.node * 2 + 1 + (a.word / 2 ^ (31 - l.t) % 2 + f) % 2 + 1) e ∙ n

pub overflow_mul-result : goal.overflow_mul-result
overflow_mul-result c = let b = node_le c in omega arith

pub overflow_add-result : goal.overflow_add-result
overflow_add-result c = let b = node_le c in omega arith

pub returns : goal.returns
returns c = let l = c.loop-t in let a = c.args in unflip_ends a.flips a.word l.t l.node (omega arith) l.invariant
