-- `added_on_the_way`: the nodes that come after those passed are known.
use mathlib.Core.Path.{◌≡◌, refl, ap, subst, ◌∙◌}
use Prim.Native.Nat.{ℕ, ◌+◌, ◌*◌, ◌/◌, ◌%◌, ◌^◌, ◌≤◌}
use native.Mathlib.Omega.{arith}
use lib.ListN.{get_or, set, length-set}
use Rattle.ranges.proofs.Written.{written}
use Rattle.flips.specs.Flips.{flip_bit}
use Rattle.flips.proofs.FlipBits.{read_bit}
use Rattle.flips.proofs.Tree.{AddedAt, root, onwards}
use Rattle.flips.proofs.words.added_on_the_way.Goals as goal

pub loop-node-init : goal.loop-node-init
loop-node-init c = (refl, λ k h. let e : k ≡ 0 = omega arith in rw e (root c.args.flips))

pub loop-node-preserved : goal.loop-node-preserved
loop-node-preserved c =
    let l = c.loop-node in
    let flips = c.args.flips in
    let m = get_or l.tree l.node 0 in
    let set-bit : ℕ = get_or flips (l.node / 8) 0 / 2 ^ (l.node % 8) % 2 in
    let x : ℕ = m * 2 + set-bit in
    let here = l.invariant.1 l.node (omega arith) in
    let is : m * 2 + flip_bit flips l.node ≡ x = ap (λ (b : ℕ). m * 2 + b) (read_bit flips l.node) in
    let after : (d : ℕ) → d ≤ 1 → AddedAt flips (l.node * 2 + 1 + d) x = λ d small.
    subst (AddedAt flips (l.node * 2 + 1 + d)) is (onwards flips l.node m d small here) in
    let left : l.node * 2 + 1 + 0 ≡ l.node * 2 + 1 = omega arith in
    let right : l.node * 2 + 1 + 1 ≡ l.node * 2 + 2 = omega arith in
    let one = set l.tree (l.node * 2 + 1) x in
    let long = length-set l.tree (l.node * 2 + 1) x ∙ l.invariant.0 in
    let first = written 0 (AddedAt flips) l.tree (l.node * 2 + 1) x (omega (arith, l.invariant.0)) l.invariant.1
    (subst (λ (k : ℕ). AddedAt flips k x) left (after 0 (omega arith))) in
    let both = written 0 (AddedAt flips) one (l.node * 2 + 2) x (omega (arith, long)) (λ k h. first k (omega arith))
    (subst (λ (k : ℕ). AddedAt flips k x) right (after 1 (omega arith))) in
    (length-set one (l.node * 2 + 2) x ∙ long, λ k h. both k (omega arith))
