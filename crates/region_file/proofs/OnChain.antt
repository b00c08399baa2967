-- Records off the chain are not looked at: the judgements of two files that agree on the chain stay the same link by link.
-- Assumes nothing.
use mathlib.Core.Path.{◌≡◌, refl, ap, ◌∙◌}
use mathlib.Core.Bool.{Bool, true, false, cond}
use mathlib.Core.List.{List}
use Prim.Native.Nat.{ℕ, zero, suc, ◌/◌}
use borrow.Author.Tests.{eqb-false}
use lib.Dec.{eqb}
use Rattle.refusal.specs.Outcome.{accepted, Test, first}
use Rattle.stage.specs.declared.regions.Field.{Field}
use Rattle.region_file.specs.declared.records.Record.{Record}
use Rattle.region_file.specs.Records.{record_bytes, record_at, first_record, record_count, most_records}
use Rattle.region_file.specs.Judge.{also, record_tests, loader_tests, link_tests, head_tests, nowhere, chain_outcome, judge_outcome}
use Rattle.region_file.specs.Theorem.{SameOnChain, OnlyTheChain}

module _ (tests : Record → List Test) (file other : List ℕ) (On : ℕ → Type 0) (same : SameOnChain file other On) where
  counts : record_count file ≡ record_count other
  counts = ap (λ (k : ℕ). k / record_bytes) same.bytes

  chains : (links : ℕ) (v : ℕ → Bool) (n : ℕ) → On n → chain_outcome tests file links v n ≡ chain_outcome tests other links v n
  unfolding chain_outcome
  chains zero v n o = refl
  chains (suc links) v n o = go (eqb n 0) refl (chains links)
    where
      go : (z : Bool) → eqb n 0 ≡ z → ((v : ℕ → Bool) (n : ℕ) → On n → chain_outcome tests file links v n ≡ chain_outcome tests other links v n)
          → cond z (accepted tt) (first (link_tests tests file (v n) n) (chain_outcome tests file links (also n v) (record_at file n).next))
          ≡ cond z (accepted tt) (first (link_tests tests other (v n) n) (chain_outcome tests other links (also n v) (record_at other n).next))
      go true e more = refl
      go false e more =
          let ne = eqb-false n 0 e in
          let count = counts in
          let r = same.records_same n o ne in
          let alike : link_tests tests file (v n) n ≡ link_tests tests other (v n) n = cc in
          ap (λ (ts : List Test). first ts (chain_outcome tests file links (also n v) (record_at file n).next)) alike
          ∙ ap (first (link_tests tests other (v n) n)) (more (also n v) (record_at file n).next (same.goes_on n o ne)
          ∙ ap (λ (q : Record). chain_outcome tests other links (also n v) q.next) r)

pub only_the_chain : OnlyTheChain
unfolding judge_outcome
only_the_chain further file other On same =
    let heads : head_tests file ≡ head_tests other = cc in
    ap (λ (ts : List Test). first ts (chain_outcome (loader_tests further file) file most_records nowhere (first_record file))) heads
    ∙ ap (first (head_tests other)) (chains (loader_tests further file) file other On same most_records nowhere (first_record file) same.begins
    ∙ ap (λ (f : Field). chain_outcome (record_tests further f) other most_records nowhere (first_record file)) same.fields
    ∙ ap (chain_outcome (loader_tests further other) other most_records nowhere) same.firsts)
