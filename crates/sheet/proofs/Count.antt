-- How many visits and pages an accepted file has at most.
-- Assumes nothing.
use Rattle.std.proofs.Common.{◌≡◌, ℕ, ◌*◌, ◌≤◌, List, [], ◌∷◌, length, sym, refl, arith, length-append}
use Rattle.ranges.specs.Each.{Each}
use Rattle.ranges.proofs.Range.{length-each}
use Rattle.refusal.specs.Outcome.{Outcome, accepted, refused, then, Test}
use Rattle.refusal.proofs.First.{accepted-refused, then_same}
use Rattle.region_file.specs.declared.records.Record.{Record}
use Rattle.region_file.specs.Records.{record_at, reader_field}
use Rattle.region_file.specs.Chain.{chain_numbers}
use Rattle.region_file.specs.Judge.{most_visits, loader_tests, no_further_tests, judge_outcome}
use Rattle.region_file.proofs.Chain.{sound}
use Rattle.region_file.proofs.Accepted.{Good, numbers_good, numbers_few}
use Rattle.visits.specs.declared.file_walks.FileVisit.{FileVisit}
use Rattle.visits.specs.Visits.{planned, file_visit, record_visits, visits_of, file_visits, visits_outcome}
use Rattle.sheet.specs.Sheet.{page_count}

-- ---- what an accepted file has

accepted_before : {A B : Type 0} (o : Outcome A) (after : Outcome B) {b : B} → then o after ≡ accepted b → (a : A) × (o ≡ accepted a)
unfolding then
accepted_before (accepted a) after e = (a, refl)
accepted_before (refused n values) after e = absurd (accepted-refused (sym e))

-- a file that has visits is accepted, and they are its visits
pub judged : (file : List ℕ) (vs : List FileVisit) → visits_outcome file ≡ accepted vs
    → (judge_outcome no_further_tests file ≡ accepted tt) × (file_visits file ≡ vs)
judged file vs e = (
  (accepted_before (judge_outcome no_further_tests file) (accepted (file_visits file)) e).1,
  sym (then_same (judge_outcome no_further_tests file) (file_visits file) e),
)

-- ---- its visits

visits_few : (further : Record → List Test) (file ns : List ℕ) → Each (Good (loader_tests further file) file) ns
    → length (visits_of file ns) ≤ length ns * most_visits
unfolding visits_of
visits_few further file [] h = omega arith
visits_few further file (n ∷ ns) h =
    let few = (sound further (reader_field file) (record_at file n) h.0.own).few in
    let own = record_visits n (planned file n) 0 (planned file n).count in
    omega (
      arith,
      few,
      length-append own (visits_of file ns),
      length-each (file_visit n (planned file n)) 0 (planned file n).count,
      visits_few further file ns h.1,
    )

pages_few : (visits records : ℕ) → visits ≤ records * most_visits → records ≤ 2047 → page_count visits ≤ 174678
pages_few visits records h k = omega arith

pub accepted-pages : (further : Record → List Test) (file : List ℕ) → judge_outcome further file ≡ accepted tt
    → page_count (length (file_visits file)) ≤ 174678
unfolding file_visits
accepted-pages further file e =
    let ns = chain_numbers file in
    pages_few (length (visits_of file ns)) (length ns) (visits_few further file ns (numbers_good further file e))
    (numbers_few further file e)
