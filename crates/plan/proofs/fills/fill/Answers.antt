-- `fill`: refused as the tests are, in their order, and else filled.
use Rattle.std.specs.Prelude.{Err}
use mathlib.Core.Path.{◌≡◌, sym, ap, ◌∙◌}
use mathlib.Core.Bool.{false}
use mathlib.Core.List.{List, map}
use Prim.Native.Nat.{ℕ, ◌+◌, ◌≤◌}
use native.Mathlib.Omega.{arith}
use borrow.Author.Rules.{rules}
use borrow.Author.Tests.{ltb-false}
use lib.ListN.{length}
use Rattle.ranges.specs.Range.{range}
use Rattle.refusal.specs.Outcome.{Outcome, refused}
use Rattle.refusal.specs.Refusal.{of_judgement}
use Rattle.word.specs.Index.{index_count, goes_past}
use Rattle.plan.specs.declared.points.Scramble.{Scramble}
use Rattle.plan.specs.Pair.{scramble_lent, sequence}
use Rattle.plan.specs.Fill.{Buffers, filled, fill_outcome}
use Rattle.plan.proofs.Loading.{lent_holds}
use Rattle.plan.proofs.Filling.{fill_stops, refuses_lengths, refuses_range, accepts, leaves, written}
use Rattle.plan.proofs.fills.fill.Goals as goal
use Rattle.plan.proofs.fills.fill.Goals.{Start, Else-goes_past}

-- what the call comes to, and the buffers that it leaves
abbrev outcome : goal.Start → Outcome Unit
outcome s = let a = s.args in fill_outcome index_count (scramble_lent a.lent).flips a.start a.xs.now a.ys.now

abbrev buffers : goal.Start → Buffers
buffers s = let a = s.args in
    filled index_count (scramble_lent a.lent).flips (sequence a.plan (scramble_lent a.lent)) a.start a.xs.now a.ys.now

-- a refused fill leaves both as they were
kept : (s : goal.Start) {k : ℕ} {vs : List ℕ} → refused k vs ≡ outcome s → (s.args.xs.now ≡ (buffers s).x) × (s.args.ys.now ≡ (buffers s).y)
kept s e =
    let a = s.args in
    let is = leaves index_count (scramble_lent a.lent).flips a.start a.xs.now a.ys.now (sequence a.plan (scramble_lent a.lent)) e in
    (sym (ap (λ (b : Buffers). b.x) is), sym (ap (λ (b : Buffers). b.y) is))

-- past all tests
within : (c : goal.Else-goes_past) → let a = c.args in goes_past index_count a.start (length a.xs.now) ≡ false
within c = sym c.goes_past.ensures ∙ c.if-goes_past.false

room : (c : goal.Else-goes_past) → let a = c.args in a.start + length a.xs.now ≤ index_count
room c = let a = c.args in ltb-false index_count (a.start + length a.xs.now) (within c)

pub returns-in_err-judge : goal.returns-in_err-judge
returns-in_err-judge c =
    let a = c.args in
    let why = c.in_err-judge.field-0.0 in
    let back : c.from_residual.result ≡ Err why = search rules in
    let stop = fill_stops index_count (scramble_lent a.lent) a.start a.xs.now a.ys.now c.judge.result c.judge.ensures why c.in_err-judge.was in
    let both = kept (goal.at.returns-in_err-judge c).Start stop in
    record { answer = ap of_judgement back ∙ stop; first = both.0; second = both.1 }

pub returns-then-n-ys : goal.returns-then-n-ys
returns-then-n-ys c =
    let a = c.args in
    let stop = refuses_lengths index_count (scramble_lent a.lent) a.start a.xs.now a.ys.now c.judge.result c.judge.ensures
    c.in_ok-judge.was c.if-n-ys.true in
    let both = kept (goal.at.returns-then-n-ys c).Start stop in
    record { answer = stop; first = both.0; second = both.1 }

pub returns-then-goes_past : goal.returns-then-goes_past
returns-then-goes_past c =
    let a = c.args in
    let stop = refuses_range index_count (scramble_lent a.lent) a.start a.xs.now a.ys.now c.judge.result c.judge.ensures
    c.in_ok-judge.was c.if-n-ys.false (sym c.goes_past.ensures ∙ c.if-goes_past.true) in
    let both = kept (goal.at.returns-then-goes_past c).Start stop in
    record { answer = stop; first = both.0; second = both.1 }

pub fill_axes-requires : goal.fill_axes-requires
fill_axes-requires c =
    let h = room (goal.at.fill_axes-requires c).Else-goes_past in
    (h, omega (arith, c.if-n-ys.false))

pub returns : goal.returns
returns c =
    let a = c.args in
    let s = scramble_lent a.lent in
    let done = accepts index_count s a.start a.xs.now a.ys.now c.judge.result c.judge.ensures c.in_ok-judge.was
    c.if-n-ys.false (within (goal.at.returns c).Else-goes_past) in
    let is = written index_count s.flips a.start a.xs.now a.ys.now (sequence a.plan s) done in
    let same : c.loaded.result ≡ s = c.loaded.ensures ∙ lent_holds s c.judge.result c.judge.ensures c.in_ok-judge.was in
    record {
      answer = done;
      first = c.fill_axes.ensures.first ∙ ap (λ (t : Scramble). map (sequence a.plan t).x (range a.start (length a.xs.now))) same
          ∙ sym (ap (λ (b : Buffers). b.x) is);
      second = c.fill_axes.ensures.second ∙ ap (λ (t : Scramble). map (sequence a.plan t).y (range a.start (length a.ys.now))) same
          ∙ sym (ap (λ (b : Buffers). b.y) is);
    }
