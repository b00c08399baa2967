-- `row`: the entries in the columns so far, from the last on, are the bits of the word.
use Rattle.std.proofs.Common.{◌≡◌, ℕ, ◌+◌, ◌-◌, ◌/◌, ◌%◌, ◌^◌, ◌<◌, suc, ap, ap₂, ◌∙◌, length, get_or, arith, rules}
use Rattle.std.proofs.lemmas.Iterator.Adapters.{YieldsList-from_rev_slice}
use Rattle.std.proofs.lemmas.Iterator.Consumers.{YieldsList-turn, YieldsList-end}
use Rattle.std.proofs.lemmas.List.{length_push, length-reverse, get_or-reverse, get_or_default}
use Rattle.minors.proofs.Transposed.{from-none, from-fits, from_more, from_all}
use Rattle.minors.proofs.rows.row.Goals as goal
use Rattle.minors.proofs.rows.row.Goals.{In-Some}

-- a column is the next from the last on
next_column : (c : goal.In-Some) → let n = length c.loop-column.yielded in
    (n < 32) × (c.in-Some.column.now ≡ get_or c.args.columns (32 - n - 1) 0)
next_column c =
    let l = c.loop-column in
    let columns = c.args.columns in
    let n = length l.yielded in
    let many : length columns ≡ 32 = search rules in
    let turn = YieldsList-turn (YieldsList-from_rev_slice columns (search rules)) l.yielded _ l.yielded_by _ _ c.in-Some.column c.in-Some.is
    c.next.ensures.steps in
    let here : n < length columns = omega (arith, turn.0, length-reverse columns) in
    let place : length columns - 1 - n ≡ 32 - n - 1 = omega arith in (
      omega (arith, here),
      turn.1 ∙ get_or-reverse columns n c.in-Some.column.now here ∙ ap (λ (k : ℕ). get_or columns k c.in-Some.column.now) place
          ∙ get_or_default columns (32 - n - 1) c.in-Some.column.now 0 (omega (arith, here)),
    )

pub loop-column-init : goal.loop-column-init
loop-column-init c = (omega arith, from-none)

pub overflow_mul-word : goal.overflow_mul-word
overflow_mul-word c =
    let next = next_column c in
    let small = from-fits c.loop-column.invariant.1 (omega arith) in
    record { fits = omega arith }

pub overflow_add-word : goal.overflow_add-word
overflow_add-word c =
    let next = next_column (goal.at.overflow_add-word c).In-Some in
    let small = from-fits c.loop-column.invariant.1 (omega arith) in
    record { fits = omega arith }

pub loop-column-preserved : goal.loop-column-preserved
loop-column-preserved c =
    let l = c.loop-column in
    let a = c.args in
    let next = next_column (goal.at.loop-column-preserved c).In-Some in
    let place : 31 - a.r ≡ 32 - suc a.r = omega arith in
    let one : 32 - length l.yielded - 1 ≡ 32 - (length l.yielded + 1) = omega arith in
    rw (length_push l.yielded c.in-Some.column, ← one) (
      omega (arith, next.0),
      from_more l.invariant.1 _ (omega (arith, next.0)) (omega arith) (ap₂ (λ (w k : ℕ). w / 2 ^ k % 2) next.1 place) (omega arith),
    )

pub returns : goal.returns
returns c =
    let l = c.loop-column in
    let columns = c.args.columns in
    let many : length columns ≡ 32 = search rules in
    let end = YieldsList-end (YieldsList-from_rev_slice columns (search rules)) l.yielded _ l.yielded_by _ _ c.in-None.is c.next.ensures.steps in
    from_all l.invariant.1 (omega (arith, end.1, length-reverse columns))
