-- What users rely on: every chain ends within the number of links that its judgement looks at, nothing off the chain is looked at, a loader
-- with further tests accepts the files of the listing whose records pass them, and a judgement stops at the first link that does not pass;
-- exactly which links are refused for the reader's field, and that files without one are judged as 01 has it.
-- What is said of 01 concerns the listing's own tests; all else holds for every list of tests of a record, or of further tests.
use Rattle.std.specs.Prelude.{◌≡◌, Bool, true, false, cond, List, [], ◌⊎◌, ◌↔◌, ℕ, zero, suc, ◌≤◌, ◌<◌, eqb, length}
use Rattle.refusal.specs.Outcome.{Outcome, accepted, refused, Test}
use Rattle.stage.specs.Field.{field_extent}
use Rattle.stage.specs.Region.{within}
use Rattle.region_file.specs.declared.records.Record.{Record}
use Rattle.region_file.specs.Records.{record_at, first_record, file_level, reader_field, zeros, reserved_zero, record_count, most_records}
use Rattle.region_file.specs.Chain.{numbers, chain_numbers, on_chain, no_link, link_at}
use Rattle.region_file.specs.Judge.{
  whole,
  head_outcome,
  no_further_tests,
  loader_tests,
  record_outcome,
  link_outcome,
  nowhere,
  also,
  chain_outcome,
  judge_outcome,
  judge_stop,
}
use Rattle.region_file.specs.Base.{base_judge_outcome, base_judge_stop}

-- a chain of a whole file is judged the same, however many links from most_records on the judgement looks at
abbrev pub ChainsEnd : Type 0
ChainsEnd = (tests : Record → List Test) (file : List ℕ) (links n : ℕ) → whole (length file) ≡ true → most_records ≤ links
    → chain_outcome tests file links nowhere n ≡ chain_outcome tests file most_records nowhere n

-- the numbers of an accepted file are its whole chain: looking at more links finds no more
abbrev pub WholeChain : Type 0
WholeChain = (further : Record → List Test) (file : List ℕ) (links : ℕ) → judge_outcome further file ≡ accepted tt → most_records ≤ links
    → numbers file links (first_record file) ≡ chain_numbers file

-- two files whose record 0 is judged the same, and that agree at each record of a chain. `On` holds of the chain's numbers.
pub record SameOnChain (file other : List ℕ) (On : ℕ → Type 0) : Type 0 where
  pub bytes : length file ≡ length other
  pub levels : file_level file ≡ file_level other
  pub fields : reader_field file ≡ reader_field other
  pub reserved : reserved_zero file ≡ reserved_zero other
  pub firsts : first_record file ≡ first_record other
  pub begins : On (first_record file)
  pub goes_on : (n : ℕ) → On n → (n ≡ 0 → ⊥) → On (record_at file n).next
  pub records_same : (n : ℕ) → On n → (n ≡ 0 → ⊥) → record_at file n ≡ record_at other n

-- files that agree on record 0 and on each record of the chain are judged the same, whatever else they hold
abbrev pub OnlyTheChain : Type 1
OnlyTheChain = (further : Record → List Test) (file other : List ℕ) (On : ℕ → Type 0) → SameOnChain file other On
    → judge_outcome further file ≡ judge_outcome further other

-- a file is accepted with further tests exactly where the listing accepts it and each record of its chain passes them
abbrev pub FurtherTests : Type 0
FurtherTests = (further : Record → List Test) (file : List ℕ)
    → (judge_outcome further file ≡ accepted tt)
    ↔ ((judge_outcome no_further_tests file ≡ accepted tt)
    × ((n : ℕ) → on_chain file n ≡ true → record_outcome further (record_at file n) ≡ accepted tt))

-- the records that the links before link k name
unfoldable pub named_before : List ℕ → ℕ → ℕ → Bool
named_before file zero = nowhere
named_before file (suc k) = also (link_at file k).named (named_before file k)

-- what link k comes to: its tests decide, unless it ends the chain
abbrev pub outcome_at : (Record → List Test) → List ℕ → ℕ → Outcome Unit
outcome_at tests file k =
    let n = (link_at file k).named in
    cond (eqb n 0) (accepted tt) (link_outcome tests file (named_before file k n) n)

-- the judgement of a file stops at link k: it is the first that ends the chain or is refused, and what it comes to is the judgement
pub record StopsAt (further : Record → List Test) (file : List ℕ) (k : ℕ) : Type 0 where
  pub stop : judge_stop further file ≡ link_at file k
  pub decides : judge_outcome further file ≡ outcome_at (loader_tests further file) file k
  pub ends : outcome_at (loader_tests further file) file k ≡ accepted tt → (link_at file k).named ≡ 0
  pub earlier : (i : ℕ) → i < k → ((link_at file i).named ≡ 0 → ⊥) × (outcome_at (loader_tests further file) file i ≡ accepted tt)

-- the judgement of a file whose record 0 passes stops at some link; that of another stops at none
pub record Stops (further : Record → List Test) (file : List ℕ) : Type 0 where
  pub at_link : head_outcome file ≡ accepted tt → (k : ℕ) × StopsAt further file k
  pub at_none : (number : ℕ) (values : List ℕ) → head_outcome file ≡ refused number values → judge_stop further file ≡ no_link

-- ---- the reader's field

-- a link is refused under 16 exactly where the file has the record that it names, no earlier link named it, its region is within the limits, and
-- the field is larger than the region on an axis; so for every loader whose further tests do not give 16 themselves
abbrev pub SixteenAt : Type 0
SixteenAt = (further : Record → List Test) (file : List ℕ) (seen : Bool) (n : ℕ)
    → (record_outcome further (record_at file n) ≡ refused 16 [] → ⊥)
    → let r = (record_at file n).region in
    let f = reader_field file in
    (link_outcome (loader_tests further file) file seen n ≡ refused 16 [])
    ↔ ((n < record_count file) × (seen ≡ false) × (within r ≡ true)
    × ((r.width < field_extent f.width) ⊎ (r.height < field_extent f.height)))

-- a chain without records is accepted whatever the field is
abbrev pub NoRecords : Type 0
NoRecords = (further : Record → List Test) (file : List ℕ) → head_outcome file ≡ accepted tt → first_record file ≡ 0
    → judge_outcome further file ≡ accepted tt

-- a file whose bytes 8 to 15 are zero is judged as 01 has it, and its judgement stops at the same link
abbrev pub AsBefore : Type 0
AsBefore = (file : List ℕ) → zeros file 8 8 ≡ true
    → (judge_outcome no_further_tests file ≡ base_judge_outcome file) × (judge_stop no_further_tests file ≡ base_judge_stop file)

pub record Theorems : Type 1 where
  pub chains_end : ChainsEnd
  pub whole_chain : WholeChain
  pub only_the_chain : OnlyTheChain
  pub further_tests : FurtherTests
  pub sixteen_at : SixteenAt
  pub no_records : NoRecords
  pub as_before : AsBefore
  pub stops : (further : Record → List Test) (file : List ℕ) → Stops further file
