-- A file is accepted with further tests exactly where the listing accepts it and each record of its chain passes them: the tests of a link
-- are the listing's, and then the further ones.
-- Assumes nothing.
use mathlib.Core.Path.{◌≡◌, refl, ◌∙◌}
use mathlib.Core.Bool.{Bool, true}
use mathlib.Core.List.{List, [], ◌∷◌}
use mathlib.Core.Logic.{◌⊎◌, inl, inr}
use Prim.Native.Nat.{ℕ, zero, suc, ◌<◌}
use native.Mathlib.Omega.{arith}
use borrow.Author.Tests.{lt-leb}
use Rattle.refusal.specs.Outcome.{Outcome, accepted, Test, first}
use Rattle.refusal.proofs.First.{first-none, first_passes, AllPass, all_pass}
use Rattle.region_file.specs.declared.records.Record.{Record}
use Rattle.region_file.specs.Records.{record_at, first_record, reader_field, most_records}
use Rattle.region_file.specs.Chain.{numbers, member}
use Rattle.region_file.specs.Judge.{
  head_tests,
  no_further_tests,
  loader_tests,
  listing_tests,
  record_outcome,
  link_outcome,
  nowhere,
  also,
  chain_outcome,
  judge_outcome,
}
use Rattle.region_file.specs.Theorem.{FurtherTests}
use Rattle.region_file.proofs.Chain.{sound, Passed, Linked, linked, chain_end, chain_some, chain_next, judged_chain}
use Rattle.region_file.proofs.Numbers.{member-first, member-later, member-passes}

pass_all : {A : Type 0} (after : Outcome A) (ts : List Test) → AllPass ts → first ts after ≡ after
pass_all after [] p = first-none after
pass_all after (t ∷ ts) p = first_passes after t.number ts p.0 ∙ pass_all after ts p.1

-- a link that passes with one list of further tests leaves only the further ones of another
only_further : (one other : Record → List Test) (file : List ℕ) (seen : Bool) (n : ℕ) → Passed (loader_tests one file) file seen n
    → link_outcome (loader_tests other file) file seen n ≡ record_outcome other (record_at file n)
only_further one other file seen n p =
    first_passes _ 13 _ (lt-leb _ _ p.here)
    ∙ first_passes _ 14 _ p.fresh
    ∙ first_passes _ 10 _ p.own.0
    ∙ first_passes _ 16 _ p.own.1.0
    ∙ first_passes _ 15 _ p.own.1.1.0

module _ (further : Record → List Test) (file : List ℕ) where
  -- the further tests accept record k
  abbrev Accepts : ℕ → Type 0
  Accepts k = record_outcome further (record_at file k) ≡ accepted tt

  abbrev with_further : ℕ → (ℕ → Bool) → ℕ → Outcome Unit
  with_further = chain_outcome (loader_tests further file) file

  abbrev with_none : ℕ → (ℕ → Bool) → ℕ → Outcome Unit
  with_none = chain_outcome (listing_tests file) file

  without : (links : ℕ) (v : ℕ → Bool) (n : ℕ) → with_further links v n ≡ accepted tt → with_none links v n ≡ accepted tt
  without zero v n h = absurd (chain_some (loader_tests further file) file v n h)
  without (suc links) v n h = go (linked (loader_tests further file) file links v n h) (without links)
    where
      some : 0 < suc links
      some = omega arith

      go : (n ≡ 0) ⊎ Linked (loader_tests further file) file links v n
          → ((v : ℕ → Bool) (n : ℕ) → with_further links v n ≡ accepted tt → with_none links v n ≡ accepted tt)
          → with_none (suc links) v n ≡ accepted tt
      go (inl e) more = chain_end (listing_tests file) file (suc links) some v n e
      go (inr l) more =
          chain_next (listing_tests file) file v n l.some links
          (only_further further no_further_tests file (v n) n l.link ∙ first-none _)
          ∙ more (also n v) (record_at file n).next l.rest

  with_them : (links : ℕ) (v : ℕ → Bool) (n : ℕ) → with_none links v n ≡ accepted tt
      → ((k : ℕ) → member k (numbers file links n) ≡ true → Accepts k) → with_further links v n ≡ accepted tt
  with_them zero v n h each = absurd (chain_some (listing_tests file) file v n h)
  with_them (suc links) v n h each = go (linked (listing_tests file) file links v n h) (with_them links)
    where
      some : 0 < suc links
      some = omega arith

      go : (n ≡ 0) ⊎ Linked (listing_tests file) file links v n
          → ((v : ℕ → Bool) (n : ℕ) → with_none links v n ≡ accepted tt
          → ((k : ℕ) → member k (numbers file links n) ≡ true → Accepts k) → with_further links v n ≡ accepted tt)
          → with_further (suc links) v n ≡ accepted tt
      go (inl e) more = chain_end (loader_tests further file) file (suc links) some v n e
      go (inr l) more =
          let own = each n (member-first file n links n l.some refl) in
          chain_next (loader_tests further file) file v n l.some links (only_further no_further_tests further file (v n) n l.link ∙ own)
          ∙ more (also n v) (record_at file n).next l.rest (λ k m. each k (member-later file k links n l.some m))

pub further_tests : FurtherTests
unfolding judge_outcome
further_tests further file =
    let whole-further = with_further further file most_records nowhere (first_record file) in
    let whole-none = with_none further file most_records nowhere (first_record file) in (
      λ e.
          let h = judged_chain further file e in (
            pass_all whole-none (head_tests file) (all_pass whole-further (head_tests file) e).0
                ∙ without further file most_records nowhere (first_record file) h,
            λ k m. pass_all (accepted tt) (further (record_at file k))
                (sound further (reader_field file) (record_at file k)
                (member-passes (loader_tests further file) file k most_records nowhere (first_record file) h m)).others,
          ),
      λ p.
          pass_all whole-further (head_tests file) (all_pass whole-none (head_tests file) p.0).0
          ∙ with_them further file most_records nowhere (first_record file) (judged_chain no_further_tests file p.0) p.1,
    )
