-- `flip`: the mask is what is added to the bits above.
use mathlib.Core.Path.{◌≡◌, refl, ap, ◌∙◌}
use Prim.Native.Nat.{ℕ, ◌+◌, ◌*◌, ◌^◌, ◌<◌}
use native.Mathlib.Nat.{pow-suc}
use native.Mathlib.Numerals.{add-one}
use native.Mathlib.Omega.{arith}
use borrow.Author.Rules.{rules}
use Rattle.digits.specs.Digits.{plus}
use Rattle.net.specs.Sequence.{top}
use Rattle.flips.proofs.FlipBits.{read_bit}
use Rattle.flips.proofs.Turn.{mask_starts, mask_node_lt, mask_turn, mask-ends}
use Rattle.flips.proofs.words.flip.Goals as goal

pub loop-t-init : goal.loop-t-init
loop-t-init c = (refl, omega arith, mask_starts c.args.flips c.args.word (search rules))

pub bounds-flips-node : goal.bounds-flips-node
bounds-flips-node c =
    let l = c.loop-t in
    let a = c.args in
    let small : l.first + top 2 32 l.t a.word < 255 = mask_node_lt a.flips a.word l.t l.first (search rules) (omega arith) l.invariant.0 in
    omega arith

pub loop-t-preserved : goal.loop-t-preserved
loop-t-preserved c =
    let l = c.loop-t in
    let a = c.args in
    let n = mask_turn a.flips a.word l.t l.first l.mask (omega arith) l.invariant.0 l.invariant.2 in
    let e = read_bit a.flips (l.first + top 2 32 l.t a.word) in
    let q : 2 ^ (l.t + 1) ≡ 2 ^ l.t * 2 = ap (λ (k : ℕ). 2 ^ k) (add-one l.t) ∙ pow-suc 2 l.t in
    (omega arith, omega arith, n ∙ ap (λ (f : ℕ). plus 2 (top 2 32 (l.t + 1) a.word) (l.mask * 2 + f)) e)

pub returns : goal.returns
returns c =
    let l = c.loop-t in
    let a = c.args in
    mask-ends a.flips a.word l.t l.mask (omega arith) l.invariant.2
