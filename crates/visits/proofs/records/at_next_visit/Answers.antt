-- `records::at_next_visit`. The loop's invariant: the visits from n on, over the links that are left, are those from the start on, over those
-- that count.
use mathlib.Core.Path.{◌≡◌, sym, ap, ◌∙◌, subst}
use mathlib.Core.List.{List, []}
use mathlib.Core.Logic.{inl, inr}
use Prim.Native.Nat.{ℕ, ◌-◌, ◌+◌, ◌≤◌, ◌<◌}
use native.Mathlib.Omega.{arith}
use borrow.Author.Rules.{rules}
use Rattle.region_file.specs.declared.records.Record.{Record}
use Rattle.region_file.specs.Records.{most_records}
use Rattle.visits.specs.declared.file_walks.FileWalk.{FileWalk}
use Rattle.visits.specs.FileWalk.{visits_from, links_counted, visits_to_come, ended_walk}
use Rattle.visits.specs.Stepping.{AtNextVisit}
use Rattle.visits.proofs.Coming.{visits_from-none, visits_from-stop, visits_from-empty, start_of, start_comes, ended_comes}
use Rattle.visits.proofs.records.at_next_visit.Goals as goal

-- a walk that has ended, where nothing is to come
none : (file : List ℕ) (start links : ℕ) (p : FileWalk) → p ≡ ended_walk → visits_from file (links_counted links) start ≡ []
    → AtNextVisit file start links p
none file start links p e h =
    let c = ap (visits_to_come file) e ∙ ended_comes file in
    record { same = c ∙ sym h; ready = inr c }

pub returns-then-not-listable : goal.returns-then-not-listable
returns-then-not-listable c =
    let a = c.args in
    let file = a.file.now in
    let i = c.loop-passed in
    let e = visits_from-stop file (c.links_counted-counted.result - i.passed) i.n (sym c.listable.ensures ∙ c.if-not-listable.true) in
    none file a.start a.links c.ended.result c.ended.ensures (sym i.invariant.1 ∙ e)

pub returns-then-entry-gt0 : goal.returns-then-entry-gt0
returns-then-entry-gt0 c =
    let file = c.args.file.now in
    let i = c.loop-passed in
    let counted = c.links_counted-counted.result in
    let few : counted ≤ most_records = omega (arith, c.links_counted-counted.ensures) in
    let some : i.passed < counted = c.loop-passed-test.true in
    let less : counted - 1 - i.passed ≡ counted - i.passed - 1 = omega arith in
    let h = sym c.listable.ensures ∙ c.if-not-listable.false in
    let comes = start_comes file (counted - i.passed) i.n (omega (arith, some)) (omega (arith, few)) h in
    record {
      same = ap (λ (k : ℕ). visits_to_come file (start_of i.n c.planned-entry.result k)) less
          ∙ ap (λ (r : Record). visits_to_come file (start_of i.n r (counted - i.passed - 1))) c.planned-entry.ensures
          ∙ comes ∙ i.invariant.1;
      ready = inl c.if-entry-gt0.true;
    }

pub loop-passed-preserved : goal.loop-passed-preserved
loop-passed-preserved c =
    let file = c.args.file.now in
    let i = c.loop-passed in
    let counted = c.links_counted-counted.result in
    let some : i.passed < counted = c.loop-passed-test.true in
    let less : counted - (i.passed + 1) ≡ counted - i.passed - 1 = omega arith in
    let h = sym c.listable.ensures ∙ c.if-not-listable.false in (
      search rules,
      ap (λ (k : ℕ). visits_from file k c.planned-entry.result.next) less
          ∙ ap (λ (r : Record). visits_from file (counted - i.passed - 1) r.next) c.planned-entry.ensures
          ∙ sym (visits_from-empty file (counted - i.passed) i.n (omega (arith, some)) h
          (subst (λ (r : Record). r.count ≤ 0) c.planned-entry.ensures c.if-entry-gt0.false))
          ∙ i.invariant.1,
    )

pub returns : goal.returns
returns c =
    let a = c.args in
    let file = a.file.now in
    let i = c.loop-passed in
    let e = visits_from-none file (c.links_counted-counted.result - i.passed) i.n (omega (arith, c.loop-passed-test.false)) in
    none file a.start a.links c.ended-2.result c.ended-2.ensures (sym i.invariant.1 ∙ e)
