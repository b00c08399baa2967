-- What every accepted file has, whatever further tests it passed: no more records than the longest file, and a chain of at most 2,047 records that
-- pass their tests, since each link takes a record that was free, and record 0 stays free.
-- Assumes nothing.
use mathlib.Core.Path.{◌≡◌, sym, ap, ◌∙◌}
use mathlib.Core.Bool.{Bool, true, false}
use mathlib.Core.List.{List}
use mathlib.Core.Logic.{◌⊎◌, inl, inr}
use Prim.Native.Nat.{ℕ, zero, suc, ◌≤◌, ◌<◌}
use native.Mathlib.Omega.{arith}
use borrow.Author.Tests.{eq-eqb, ne_eqb, not-false}
use lib.ListN.{length, get_or, set, replicate, length-set, length-replicate}
use lib.Seq.{get_or-set_other}
use Rattle.ranges.specs.Each.{Each}
use Rattle.refusal.specs.Outcome.{accepted, Test}
use Rattle.refusal.proofs.First.{AllPass, all_pass}
use Rattle.region_file.specs.declared.records.Record.{Record}
use Rattle.region_file.specs.Records.{record_at, first_record, record_count, most_records}
use Rattle.region_file.specs.Chain.{numbers, chain_numbers}
use Rattle.region_file.specs.Judge.{head_tests, loader_tests, nowhere, also, chain_outcome, judge_outcome}
use Rattle.region_file.proofs.Marks.{marked, free, free_fresh, fresh_at, marked_fresh, free-set, free-some, marked-set}
use Rattle.region_file.proofs.Chain.{Linked, linked, chain_some, whole_few, judged_chain}

-- an accepted file, whatever further tests it passed, has no more records than the longest file
pub few_records : (further : Record → List Test) (file : List ℕ) → judge_outcome further file ≡ accepted tt → record_count file ≤ most_records
unfolding judge_outcome
few_records further file e =
    whole_few (length file)
    (not-false _ (all_pass (chain_outcome (loader_tests further file) file most_records nowhere (first_record file)) (head_tests file) e).0.0)

-- ---- its chain

-- the file has record n, and the record passes its tests
pub record Good (tests : Record → List Test) (file : List ℕ) (n : ℕ) : Type 0 where
  pub here : n < record_count file
  pub own : AllPass (tests (record_at file n))

module _ (tests : Record → List Test) (file : List ℕ) where
  chain_good : (links : ℕ) (v : ℕ → Bool) (n : ℕ) → chain_outcome tests file links v n ≡ accepted tt
      → Each (Good tests file) (numbers file links n)
  unfolding numbers
  chain_good zero v n h = tt
  chain_good (suc links) v n h = go (linked tests file links v n h) (chain_good links)
    where
      go : (n ≡ 0) ⊎ Linked tests file links v n
          → ((v : ℕ → Bool) (n : ℕ) → chain_outcome tests file links v n ≡ accepted tt → Each (Good tests file) (numbers file links n))
          → Each (Good tests file) (numbers file (suc links) n)
      go (inl e) more = simp (eq-eqb n 0 e) tt
      go (inr l) more =
          simp (ne_eqb n 0 l.some) (record { here = l.link.here; own = l.link.own }, more (also n v) (record_at file n).next l.rest)

  -- each number of the chain takes a record that was free, and record 0 stays free
  chain_free : record_count file ≤ most_records → (links : ℕ) (ms : List Bool) (n : ℕ) → length ms ≡ most_records → get_or ms 0 false ≡ false
      → chain_outcome tests file links (marked ms) n ≡ accepted tt → length (numbers file links n) < free ms
  unfolding numbers
  chain_free few zero ms n l z h = absurd (chain_some tests file (marked ms) n h)
  chain_free few (suc links) ms n l z h = go (linked tests file links (marked ms) n h) (chain_free few links)
    where
      go : (n ≡ 0) ⊎ Linked tests file links (marked ms) n
          → ((ms : List Bool) (n : ℕ) → length ms ≡ most_records → get_or ms 0 false ≡ false
          → chain_outcome tests file links (marked ms) n ≡ accepted tt → length (numbers file links n) < free ms)
          → length (numbers file (suc links) n) < free ms
      go (inl e) more = simp (eq-eqb n 0 e) (free-some ms l z)
      go (inr p) more =
          let here = p.link.here in
          let next = (record_at file n).next in
          let k : n < length ms = omega (arith, here) in
          let o : free ms ≡ suc (free (set ms n true)) = free-set ms n k p.link.fresh in
          let rest = more (set ms n true) next (length-set ms n true ∙ l) (get_or-set_other ms n 0 true false (λ q. p.some (sym q)) ∙ z)
          (ap (λ (v : ℕ → Bool). chain_outcome tests file links v next) (marked-set ms n k) ∙ p.rest) in
          simp (ne_eqb n 0 p.some) (omega (arith, rest, o))

module _ (further : Record → List Test) (file : List ℕ) (e : judge_outcome further file ≡ accepted tt) where
  pub numbers_good : Each (Good (loader_tests further file) file) (chain_numbers file)
  numbers_good = chain_good (loader_tests further file) file most_records nowhere (first_record file) (judged_chain further file e)

  pub numbers_few : length (chain_numbers file) ≤ 2047
  numbers_few =
      let ms : List Bool = replicate most_records false in
      let h = ap (λ (v : ℕ → Bool). chain_outcome (loader_tests further file) file most_records v (first_record file)) (marked_fresh most_records)
      ∙ judged_chain further file e in
      let less = chain_free (loader_tests further file) file (few_records further file e) most_records ms (first_record file)
      (length-replicate {A = Bool} most_records false) (fresh_at most_records 0) h in
      omega (arith, free_fresh most_records, less)
