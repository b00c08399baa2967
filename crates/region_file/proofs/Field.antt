-- The reader's field in the judgement of a file: which links are refused under 16, and that a chain without records never is.
-- Assumes nothing.
use mathlib.Core.Path.{◌≡◌, refl, sym, ap, ◌∙◌}
use mathlib.Core.Bool.{Bool, true, false, not}
use mathlib.Core.List.{List, [], ◌∷◌}
use Prim.Native.Nat.{ℕ, ◌<◌}
use native.Mathlib.Omega.{arith}
use borrow.Author.Tests.{lt-leb, leb-false, not-true, not-false}
use lib.Dec.{leb, ltb, lit<}
use Rattle.refusal.specs.Outcome.{Outcome, accepted, refused, Test, first}
use Rattle.refusal.proofs.First.{first-refuses, first_passes, first-other, passed_before}
use Rattle.stage.specs.Region.{within, takes}
use Rattle.stage.proofs.Fit.{not_taken, larger}
use Rattle.region_file.specs.declared.records.Record.{Record}
use Rattle.region_file.specs.Records.{record_at, first_record, reader_field, record_count, most_records}
use Rattle.region_file.specs.Judge.{
  head_tests,
  most_visits,
  too_many,
  loader_tests,
  record_outcome,
  link_outcome,
  nowhere,
  chain_outcome,
  judge_outcome,
}
use Rattle.region_file.specs.Theorem.{SixteenAt, NoRecords}
use Rattle.region_file.proofs.Chain.{chain_end}

module _ (further : Record → List Test) (file : List ℕ) (seen : Bool) (n : ℕ) where
  abbrev named : Record
  named = record_at file n

  abbrev judged : Outcome Unit
  judged = link_outcome (loader_tests further file) file seen n

  -- the further tests do not give 16
  abbrev Other : Type 0
  Other = record_outcome further named ≡ refused 16 [] → ⊥

  too_large_is : n < record_count file → seen ≡ false → within named.region ≡ true → takes (reader_field file) named.region ≡ false
      → judged ≡ refused 16 []
  too_large_is here fresh i t =
      first_passes _ 13 _ (lt-leb _ _ here) ∙ first_passes _ 14 _ fresh ∙ first_passes _ 10 _ (ap not i) ∙ first-refuses _ 16 _ (ap not t)

  -- the test of 16 holds where it and those after it come to 16
  holds_16 : Other → (b : Bool)
      → ◌≡◌ {A = Outcome Unit} (first (record { number = 16; holds = b } ∷ too_many named ∷ further named) (accepted tt)) (refused 16 [])
      → b ≡ true
  holds_16 other true e = refl
  holds_16 other false e =
      let rest = sym (first_passes (accepted tt) 16 (too_many named ∷ further named) refl) ∙ e in
      absurd (other (first-other (accepted tt) 15 (further named) (λ h. omega arith) (ltb most_visits named.count) rest).1)

  too_large_has : Other → judged ≡ refused 16 []
      → (n < record_count file) × (seen ≡ false) × (within named.region ≡ true) × (takes (reader_field file) named.region ≡ false)
  too_large_has other e =
      let here = first-other _ 13 _ (λ h. omega arith) (leb (record_count file) n) e in
      let fresh = first-other _ 14 _ (λ h. omega arith) seen here.1 in
      let inside = first-other _ 10 _ (λ h. omega arith) (not (within named.region)) fresh.1 in
      let large = holds_16 other (not (takes (reader_field file) named.region)) inside.1 in
      (leb-false (record_count file) n here.0, fresh.0, not-false _ inside.0, not-true _ large)

pub sixteen_at : SixteenAt
sixteen_at further file seen n other = (
  λ e.
      let h = too_large_has further file seen n other e in
      (h.0, h.1, h.2, not_taken (reader_field file) (record_at file n).region h.3),
  λ h. too_large_is further file seen n h.0 h.1 h.2 (larger (reader_field file) (record_at file n).region h.3),
)

pub no_records : NoRecords
unfolding judge_outcome
no_records further file head none =
    passed_before tt (chain_outcome (loader_tests further file) file most_records nowhere (first_record file)) (head_tests file) head
    ∙ chain_end (loader_tests further file) file most_records (lit< tt) nowhere (first_record file) none
