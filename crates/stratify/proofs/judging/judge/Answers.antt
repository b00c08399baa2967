-- `judge`: its tests are those of the definition, in its order.
use mathlib.Core.Path.{◌≡◌, sym, ap, ◌∙◌}
use mathlib.Core.Bool.{false}
use Rattle.refusal.specs.Outcome.{accepted}
use Rattle.refusal.proofs.Results.{stops, gives}
use Rattle.flips.specs.Load.{flips_tests, flips_outcome}
use Rattle.plan.specs.Pair.{scramble_lent, unknown_level}
use Rattle.stratify.proofs.Tests.{level_refuses, flips_refuse, flips_pass, size_refuses, shape-refuses, cell_first, block_refuses, all-pass}
use Rattle.stratify.proofs.judging.judge.Goals as goal
use Rattle.stratify.proofs.judging.judge.Goals.{Else-unknown_level, In-Ok}

known : (c : goal.Else-unknown_level) → (unknown_level c.args.level).holds ≡ false
known c = sym c.unknown_level.ensures ∙ c.if-unknown_level.false

fine : (c : goal.In-Ok) → flips_outcome (scramble_lent c.args.lent).flips ≡ accepted tt
fine c = flips_pass (scramble_lent c.args.lent).flips (accepted (scramble_lent c.args.lent)) c.in-Ok.ensures

pub returns-then-unknown_level-clause-scramble : goal.returns-then-unknown_level-clause-scramble
returns-then-unknown_level-clause-scramble c =
    let a = c.args in
    let s = scramble_lent a.lent in
    level_refuses (accepted s) s.flips a.level a.m a.a a.block a.column a.row
    (sym c.unknown_level.ensures ∙ c.if-unknown_level.true)

pub returns-in-Err-clause-scramble : goal.returns-in-Err-clause-scramble
returns-in-Err-clause-scramble c =
    let a = c.args in
    let s = scramble_lent a.lent in
    let why = c.in-Err.why in
    flips_refuse (accepted s) s.flips a.level a.m a.a a.block a.column a.row
    (known (goal.at.returns-in-Err-clause-scramble c).Else-unknown_level)
    (stops (λ t. t) (flips_tests s.flips) s c.load.result c.load.ensures why c.in-Err.is _)

pub returns-then-m-level-clause-scramble : goal.returns-then-m-level-clause-scramble
returns-then-m-level-clause-scramble c =
    let a = c.args in
    let s = scramble_lent a.lent in
    let p = goal.at.returns-then-m-level-clause-scramble c in
    size_refuses (accepted s) s.flips a.level a.m a.a a.block a.column a.row
    (known p.Else-unknown_level) (fine p.In-Ok) c.if-m-level.true

pub returns-then-a-m-clause-scramble : goal.returns-then-a-m-clause-scramble
returns-then-a-m-clause-scramble c =
    let a = c.args in
    let s = scramble_lent a.lent in
    let p = goal.at.returns-then-a-m-clause-scramble c in
    shape-refuses (accepted s) s.flips a.level a.m a.a a.block a.column a.row
    (known p.Else-unknown_level) (fine p.In-Ok) c.if-m-level.false c.if-a-m.true

pub returns-then-outside-clause-scramble : goal.returns-then-outside-clause-scramble
returns-then-outside-clause-scramble c =
    let a = c.args in
    let s = scramble_lent a.lent in
    let p = goal.at.returns-then-outside-clause-scramble c in
    cell_first (accepted s) s.flips a.level a.m a.a a.block a.column a.row
    (known p.Else-unknown_level) (fine p.In-Ok) c.if-m-level.false c.if-a-m.false
    (sym c.outside.ensures ∙ c.if-outside.true)

pub returns-then-block-m-ne0-clause-scramble : goal.returns-then-block-m-ne0-clause-scramble
returns-then-block-m-ne0-clause-scramble c =
    let a = c.args in
    let s = scramble_lent a.lent in
    let p = goal.at.returns-then-block-m-ne0-clause-scramble c in
    block_refuses (accepted s) s.flips a.level a.m a.a a.block a.column a.row
    (known p.Else-unknown_level) (fine p.In-Ok) c.if-m-level.false c.if-a-m.false
    (sym c.outside.ensures ∙ c.if-outside.false) c.if-block-m-ne0.true

pub returns-clause-scramble : goal.returns-clause-scramble
returns-clause-scramble c =
    let a = c.args in
    let s = scramble_lent a.lent in
    let p = goal.at.returns-clause-scramble c in
    ap accepted (gives (λ t. t) (flips_tests s.flips) s c.load.result c.load.ensures
    c.in-Ok.scramble c.in-Ok.is)
    ∙ all-pass (accepted s) s.flips a.level a.m a.a a.block a.column a.row
    (known p.Else-unknown_level) (fine p.In-Ok) c.if-m-level.false c.if-a-m.false
    (sym c.outside.ensures ∙ c.if-outside.false) c.if-block-m-ne0.false
