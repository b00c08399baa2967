-- `block_cell`: the cell of the point of the block's first index; for block 0 all are 0.
use mathlib.Core.Path.{◌≡◌, sym, ap, ap₂, ◌∙◌}
use Prim.Native.Nat.{ℕ, ◌+◌, ◌-◌, ◌*◌, ◌^◌}
use native.Mathlib.Nat.{zero-mul}
use native.Mathlib.Omega.{arith}
use lib.Pow.{pow_pos}
use Rattle.digits.proofs.Two.{one_lt_two}
use Rattle.net.specs.Generators.{product}
use Rattle.net.specs.Sequence.{top}
use Rattle.net.specs.Scrambling.{plain}
use Rattle.net.specs.Shape.{Shape}
use Rattle.net.specs.Elimination.{serial, interval}
use Rattle.net.proofs.Interval.{block_lt, interval-zero}
use Rattle.word.proofs.Joined.{joined-whole}
use Rattle.plan.specs.Pair.{generators}
use Rattle.stratify.proofs.strips.block_cell.Goals as goal
use Rattle.stratify.proofs.strips.block_cell.Goals.{After-join-first, Start}

shape : (s : goal.Start) → Shape (generators s.args.plan) s.args.shape.m s.args.shape.a
shape s = record { valid = s.requires.0; wide = s.args.shape.wide; fits = s.args.shape.fits }

first : (c : goal.After-join-first) → let a = c.args in c.join-first.result ≡ a.block * 2 ^ a.shape.m
first c =
    let m = c.args.shape.m in
    let fits = block_lt one_lt_two 32 m c.args.block 0 c.args.shape.fits c.requires.1 (pow_pos m) in
    joined-whole _ _ _ c.join-first.ensures fits ∙ omega arith

pub returns-then-block-eq0 : goal.returns-then-block-eq0
returns-then-block-eq0 c =
    let a = c.args in
    let none : a.block * 2 ^ a.shape.m ≡ 0 = ap (λ (k : ℕ). k * 2 ^ a.shape.m) c.if-block-eq0.true ∙ zero-mul (2 ^ a.shape.m) in
    sym (ap (interval (plain (generators a.plan)) a.shape.m a.shape.a) none ∙ interval-zero (shape (goal.at.returns-then-block-eq0 c).Start))

pub returns : goal.returns
unfolding serial interval
returns c =
    let a = c.args in
    let d : ℕ = a.shape.m - a.shape.a in
    let begins = first (goal.at.returns c).After-join-first in
    c.number_at.ensures
    ∙ ap₂ (λ (u v : ℕ). top 2 32 a.shape.a u * 2 ^ d + top 2 32 d v)
    (c.product.ensures ∙ ap (product 2 a.plan.x) begins) (c.product-2.ensures ∙ ap (product 2 a.plan.y) begins)
