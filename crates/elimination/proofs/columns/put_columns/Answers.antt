-- `put_columns`: the code's cell of a column is the interval of the column's index, and a word.
use Rattle.std.proofs.Common.{◌≡◌, sym, ap₂, ◌∙◌, ℕ, ◌+◌, ◌-◌, ◌*◌, ◌^◌, ◌≤◌, ◌<◌, arith}
use Rattle.std.proofs.Math.Pow.{pow_mono}
use Rattle.std.proofs.lemmas.Grind.{common_steps}
use Rattle.net.specs.Scrambling.{plain}
use Rattle.net.specs.Elimination.{interval}
use Rattle.net.proofs.Interval.{interval_lt}
use Rattle.word.proofs.Joined.{joined-whole}
use Rattle.plan.specs.Pair.{generators}
use Rattle.elimination.proofs.Shapes.{interval-at, columns-of-shape}
use Rattle.elimination.proofs.columns.put_columns.Goals as goal
use Rattle.elimination.proofs.columns.put_columns.Goals.{After-top-in-loop-c}

cell : (c : goal.After-top-in-loop-c) → c.top.result * 2 ^ (c.args.m - c.args.a) + c.top-in-loop-c.result
    ≡ interval (plain (generators c.args.plan)) c.args.m c.args.a (2 ^ c.loop-c.c)
cell c =
    ap₂ (λ (u v : ℕ). u * 2 ^ (c.args.m - c.args.a) + v) c.top.ensures c.top-in-loop-c.ensures
    ∙ sym (interval-at c.requires c.loop-c.c)

fits : (c : goal.After-top-in-loop-c) → c.top.result * 2 ^ (c.args.m - c.args.a) + c.top-in-loop-c.result < 2 ^ 32
fits c =
    let small = interval_lt c.requires (2 ^ c.loop-c.c) in
    let wide : 2 ^ c.args.m ≤ 2 ^ 32 = pow_mono c.requires.fits in
    let e = cell c in
    omega arith

pub loop-c-preserved : goal.loop-c-preserved
loop-c-preserved c =
    let s = (goal.at.loop-c-preserved c).After-top-in-loop-c in
    let column = joined-whole _ _ _ c.join.ensures (fits s) ∙ cell s in
    grind (arith, common_steps, c.loop-c.invariant.each, column)

pub returns : goal.returns
returns c = columns-of-shape c.requires c.loop-c.columns (λ t h. c.loop-c.invariant.each t (omega arith))
