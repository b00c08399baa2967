-- The laws of `chain_stop`, one for each case of the code; and the judgement of a whole file, with its stop, by the tests of record 0.
-- Assumes nothing.
use mathlib.Core.Path.{◌≡◌, refl}
use mathlib.Core.Bool.{Bool}
use mathlib.Core.List.{List}
use Prim.Native.Nat.{ℕ, zero, suc}
use borrow.Author.Tests.{eq-eqb, ne_eqb}
use Rattle.refusal.specs.Outcome.{accepted, refused, Test}
use Rattle.refusal.proofs.First.{granted-accepted, granted-refused, refused_before, passed_before}
use Rattle.region_file.specs.declared.chains.Link.{Link}
use Rattle.region_file.specs.declared.records.Record.{Record}
use Rattle.region_file.specs.Records.{first_record, most_records}
use Rattle.region_file.specs.Chain.{first_link, link_in, no_link}
use Rattle.region_file.specs.Judge.{
  head_tests,
  loader_tests,
  head_outcome,
  link_outcome,
  nowhere,
  also,
  chain_outcome,
  judge_outcome,
  chain_stop,
  judge_stop,
}

module _ (tests : Record → List Test) (file : List ℕ) (v : ℕ → Bool) (at : Link) where
  pub stop-end : (links : ℕ) → at.named ≡ 0 → chain_stop tests file links v at ≡ at
  unfolding chain_stop
  stop-end zero e = refl
  stop-end (suc links) e = simp (eq-eqb at.named 0 e)

  pub stop-refused : (links : ℕ) {k : ℕ} {vs : List ℕ} → (at.named ≡ 0 → ⊥) → link_outcome tests file (v at.named) at.named ≡ refused k vs
      → chain_stop tests file links v at ≡ at
  unfolding chain_stop
  stop-refused zero ne e = refl
  stop-refused (suc links) ne e =
      simp (ne_eqb at.named 0 ne) (granted-refused _ at e)

  pub stop-next : (links : ℕ) → (at.named ≡ 0 → ⊥) → link_outcome tests file (v at.named) at.named ≡ accepted tt
      → chain_stop tests file (suc links) v at ≡ chain_stop tests file links (also at.named v) (link_in file at.named)
  unfolding chain_stop
  stop-next links ne e =
      simp (ne_eqb at.named 0 ne) (granted-accepted _ at e)

module _ (further : Record → List Test) (file : List ℕ) where
  -- record 0 is refused: the judgement, and where it stops
  pub head-refused : {k : ℕ} {vs : List ℕ} → head_outcome file ≡ refused k vs
      → (judge_outcome further file ≡ refused k vs) × (judge_stop further file ≡ no_link)
  unfolding judge_outcome judge_stop
  head-refused e = (
    refused_before tt (chain_outcome (loader_tests further file) file most_records nowhere (first_record file)) (head_tests file) e,
    granted-refused (chain_stop (loader_tests further file) file most_records nowhere (first_link file)) no_link e,
  )

  -- record 0 passes: both are those of the chain
  pub head_passed : head_outcome file ≡ accepted tt
      → (judge_outcome further file ≡ chain_outcome (loader_tests further file) file most_records nowhere (first_record file))
      × (judge_stop further file ≡ chain_stop (loader_tests further file) file most_records nowhere (first_link file))
  unfolding judge_outcome judge_stop
  head_passed e = (
    passed_before tt (chain_outcome (loader_tests further file) file most_records nowhere (first_record file)) (head_tests file) e,
    granted-accepted (chain_stop (loader_tests further file) file most_records nowhere (first_link file)) no_link e,
  )
