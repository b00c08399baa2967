-- `chains::on_chain`. The loop's invariant: n is one of the numbers still to be followed exactly when it is on the chain.
use mathlib.Core.Path.{◌≡◌, sym, ap, ◌∙◌}
use Prim.Native.Nat.{ℕ, ◌-◌, ◌+◌}
use native.Mathlib.Omega.{arith}
use borrow.Author.Rules.{rules}
use Rattle.region_file.specs.declared.records.Record.{Record}
use Rattle.region_file.specs.Records.{most_records}
use Rattle.region_file.specs.Chain.{numbers, member}
use Rattle.region_file.proofs.Numbers.{member-none, member-end, member_here, member-next}
use Rattle.region_file.proofs.chains.on_chain.Goals as goal

pub loop-init : goal.loop-init
loop-init c =
    let a = c.args in
    (search rules, ap (λ (k : ℕ). member a.n (numbers a.file.now most_records k)) c.first_record-number.ensures)

pub returns-then-number-eq0 : goal.returns-then-number-eq0
returns-then-number-eq0 c =
    let a = c.args in
    let i = c.loop in
    sym (member-end a.file.now a.n (most_records - i.counter) i.number c.if-number-eq0.true) ∙ i.invariant.1

pub returns-then-number-n : goal.returns-then-number-n
returns-then-number-n c =
    let a = c.args in
    let i = c.loop in
    sym (member_here a.file.now a.n (most_records - i.counter) i.number (omega arith) c.if-number-eq0.false c.if-number-n.true)
    ∙ i.invariant.1

pub loop-preserved : goal.loop-preserved
loop-preserved c =
    let a = c.args in
    let i = c.loop in
    let less : most_records - (i.counter + 1) ≡ most_records - i.counter - 1 = omega arith in (
      search rules,
      ap (λ (k : ℕ). member a.n (numbers a.file.now k c.record_at-number.result.next)) less
          ∙ ap (λ (r : Record). member a.n (numbers a.file.now (most_records - i.counter - 1) r.next)) c.record_at-number.ensures
          ∙ sym (member-next a.file.now a.n (most_records - i.counter) i.number (omega arith) c.if-number-eq0.false c.if-number-n.false)
          ∙ i.invariant.1,
    )

pub returns : goal.returns
returns c =
    let a = c.args in
    let i = c.loop in
    sym (member-none a.file.now a.n (most_records - i.counter) i.number (omega arith)) ∙ i.invariant.1
