-- The laws of `chain_outcome` and `whole`, one for each case of the code, and what an accepted link, chain or file has. They hold for every
-- list of tests of a record.
-- Assumes nothing.
use mathlib.Core.Path.{◌≡◌, refl, sym, ◌∙◌}
use mathlib.Core.Bool.{Bool, true, false, cond}
use mathlib.Core.List.{List}
use mathlib.Core.Logic.{◌⊎◌, inl, inr}
use Prim.Native.Nat.{ℕ, zero, suc, ◌%◌, ◌/◌, ◌≤◌, ◌<◌}
use native.Mathlib.Nat.{lt_irrefl}
use native.Mathlib.Omega.{arith}
use borrow.Author.Tests.{eq-eqb, ne_eqb, eqb-true, eqb-false, leb-false, ltb-false, not-true, not-false}
use lib.Dec.{eqb}
use lib.ListN.{length}
use Rattle.ranges.proofs.Tests.{both_hold}
use Rattle.refusal.specs.Outcome.{Outcome, accepted, refused, Test, first}
use Rattle.refusal.proofs.First.{accepted-refused, AllPass, all_pass, refused_before, passed_before, first-append}
use Rattle.stage.specs.declared.regions.Field.{Field}
use Rattle.stage.specs.Region.{within, takes, position_tests}
use Rattle.region_file.specs.declared.records.Record.{Record}
use Rattle.region_file.specs.Records.{record_bytes, most_bytes, record_at, first_record, record_count, most_records}
use Rattle.region_file.specs.Judge.{
  whole,
  head_tests,
  head_outcome,
  most_visits,
  record_tests,
  loader_tests,
  link_tests,
  record_outcome,
  link_outcome,
  nowhere,
  also,
  chain_outcome,
  judge_outcome,
}

-- 10 and 16 of a record come before its other tests
pub region-first : (further : Record → List Test) (f : Field) (r : Record) {k : ℕ} {vs : List ℕ}
    → ◌≡◌ {A = Outcome Unit} (first (position_tests f r.region) (accepted tt)) (refused k vs)
    → record_outcome (record_tests further f) r ≡ refused k vs
region-first further f r e = first-append (position_tests f r.region) _ _ ∙ refused_before tt _ (position_tests f r.region) e

-- what a record has that passes the tests of the listing and further ones, with the reader's field f
pub record Sound (further : Record → List Test) (f : Field) (r : Record) : Type 0 where
  pub inside : within r.region ≡ true
  pub taken : takes f r.region ≡ true
  pub few : r.count ≤ most_visits
  pub others : AllPass (further r)

pub sound : (further : Record → List Test) (f : Field) (r : Record) → AllPass (record_tests further f r) → Sound further f r
sound further f r p = record {
  inside = not-false _ p.0;
  taken = not-false _ p.1.0;
  few = ltb-false most_visits r.count p.1.1.0;
  others = p.1.1.1;
}

-- what a link has that passes its tests
pub record Passed (tests : Record → List Test) (file : List ℕ) (seen : Bool) (n : ℕ) : Type 0 where
  pub here : n < record_count file
  pub fresh : seen ≡ false
  pub own : AllPass (tests (record_at file n))

module _ {A : Type 0} {after : Outcome A} {b : A} (tests : Record → List Test) (file : List ℕ) (seen : Bool) (n : ℕ) where
  pub passed : first (link_tests tests file seen n) after ≡ accepted b → Passed tests file seen n × (after ≡ accepted b)
  passed e =
      let p = all_pass after (link_tests tests file seen n) e in
      (record { here = leb-false (record_count file) n p.0.0; fresh = p.0.1.0; own = p.0.1.1 }, p.1)

module _ (tests : Record → List Test) (file : List ℕ) where
  pub chain_end : (links : ℕ) → 0 < links → (v : ℕ → Bool) (n : ℕ) → n ≡ 0 → chain_outcome tests file links v n ≡ accepted tt
  unfolding chain_outcome
  chain_end zero p v n e = absurd (lt_irrefl 0 p)
  chain_end (suc links) p v n e = simp (eq-eqb n 0 e)

  -- with no link left no chain is accepted
  pub chain_some : (v : ℕ → Bool) (n : ℕ) → chain_outcome tests file zero v n ≡ accepted tt → ⊥
  unfolding chain_outcome
  chain_some v n e = accepted-refused (sym e)

  module _ (v : ℕ → Bool) (n : ℕ) (ne : n ≡ 0 → ⊥) where
    pub chain_refused : (links : ℕ) → 0 < links → {k : ℕ} {vs : List ℕ} → link_outcome tests file (v n) n ≡ refused k vs
        → chain_outcome tests file links v n ≡ refused k vs
    unfolding chain_outcome
    chain_refused zero p e = absurd (lt_irrefl 0 p)
    chain_refused (suc links) p e = simp (ne_eqb n 0 ne)
        (refused_before tt (chain_outcome tests file links (also n v) (record_at file n).next) (link_tests tests file (v n) n) e)

    pub chain_next : (links : ℕ) → link_outcome tests file (v n) n ≡ accepted tt
        → chain_outcome tests file (suc links) v n ≡ chain_outcome tests file links (also n v) (record_at file n).next
    unfolding chain_outcome
    chain_next links e = simp (ne_eqb n 0 ne)
        (passed_before tt (chain_outcome tests file links (also n v) (record_at file n).next) (link_tests tests file (v n) n) e)

  -- an accepted chain has ended, or its link passes and the rest is accepted
  pub record Linked (links : ℕ) (v : ℕ → Bool) (n : ℕ) : Type 0 where
    pub some : n ≡ 0 → ⊥
    pub link : Passed tests file (v n) n
    pub rest : chain_outcome tests file links (also n v) (record_at file n).next ≡ accepted tt

  pub linked : (links : ℕ) (v : ℕ → Bool) (n : ℕ) → chain_outcome tests file (suc links) v n ≡ accepted tt → (n ≡ 0) ⊎ Linked links v n
  unfolding chain_outcome
  linked links v n h = go (eqb n 0) refl h
    where
      go : (z : Bool) → eqb n 0 ≡ z
          → cond z (accepted tt) (first (link_tests tests file (v n) n) (chain_outcome tests file links (also n v) (record_at file n).next))
          ≡ accepted tt
          → (n ≡ 0) ⊎ Linked links v n
      go true e h = inl (eqb-true n 0 e)
      go false e h = let p = passed tests file (v n) n h in inr (record { some = eqb-false n 0 e; link = p.0; rest = p.1 })

-- what a whole file has
pub record Whole (bytes : ℕ) : Type 0 where
  pub some : 0 < bytes
  pub most : bytes ≤ most_bytes
  pub even : bytes % record_bytes ≡ 0

pub whole_has : (bytes : ℕ) → whole bytes ≡ true → Whole bytes
unfolding whole
whole_has bytes e =
    let one = both_hold _ _ e in
    let two = both_hold _ _ one.1 in
    let some = eqb-false bytes 0 (not-true _ one.0) in
    record { some = omega (arith, some); most = ltb-false most_bytes bytes (not-true _ two.0); even = eqb-true (bytes % record_bytes) 0 two.1 }

pub whole_few : (bytes : ℕ) → whole bytes ≡ true → bytes / record_bytes ≤ most_records
whole_few bytes e = let m = (whole_has bytes e).most in omega (arith, m)

-- a file that passes the tests of its record 0 is whole
pub head_few : (file : List ℕ) {b : Unit} → head_outcome file ≡ accepted b → record_count file ≤ most_records
head_few file e = whole_few (length file) (not-false _ (all_pass (accepted tt) (head_tests file) e).0.0)

-- the chain of an accepted file is accepted
pub judged_chain : (further : Record → List Test) (file : List ℕ) → judge_outcome further file ≡ accepted tt
    → chain_outcome (loader_tests further file) file most_records nowhere (first_record file) ≡ accepted tt
unfolding judge_outcome
judged_chain further file e =
    (all_pass (chain_outcome (loader_tests further file) file most_records nowhere (first_record file)) (head_tests file) e).1
