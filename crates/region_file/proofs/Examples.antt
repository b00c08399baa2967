-- The examples of 01's refusal table and of C-12 that concern a file, computed from the definitions: no reader must rely on them.
-- Assumes nothing.
use mathlib.Core.Path.{◌≡◌, refl}
use mathlib.Core.List.{List, [], ◌∷◌, ◌++◌}
use Prim.Native.Nat.{ℕ, ◌/◌, ◌%◌}
use lib.ListN.{replicate, take}
use Rattle.refusal.specs.Outcome.{Outcome, accepted, refused, first, granted}
use Rattle.stage.specs.Field.{field_extent}
use Rattle.stage.specs.Region.{within, takes}
use Rattle.region_file.specs.Records.{word_at, record_at, reader_field, zeros}
use Rattle.region_file.specs.Chain.{no_link}
use Rattle.region_file.specs.Judge.{whole, chain_outcome, judge_outcome, chain_stop, judge_stop, no_further_tests}

-- words as bytes, the lowest first
unfoldable bytes : List ℕ → List ℕ
bytes [] = []
bytes (w ∷ ws) = w % 256 ∷ w / 256 % 256 ∷ w / 65536 % 256 ∷ w / 16777216 ∷ bytes ws

-- record 0 with a first number, a level and a reader's field, and records of eight words
unfoldable with_field : ℕ → ℕ → ℕ → ℕ → List ℕ → List ℕ
with_field first level wide high words = bytes (first ∷ level ∷ wide ∷ high ∷ replicate 4 0) ++ bytes words

-- and without a field
unfoldable file_of : ℕ → ℕ → List ℕ → List ℕ
file_of first level words = with_field first level 0 0 words

-- a record with a next number, a width and a count: 01's example has 0, 1000 and 4
unfoldable one : ℕ → ℕ → ℕ → List ℕ
one next width count = next ∷ 0xFFFFFE0C ∷ 0 ∷ width ∷ 800 ∷ 0 ∷ 0 ∷ count ∷ []

abbrev judged : List ℕ → Outcome Unit
judged file = judge_outcome no_further_tests file

record Judgements : Type 0 where
  example : judged (file_of 1 2 (one 0 1000 4)) ≡ accepted tt
  no_records : judged (file_of 0 2 []) ≡ accepted tt
  off_the_chain : judged (file_of 2 2 (one 9 0 9999 ++ one 0 1000 4096)) ≡ accepted tt
  level_33 : judged (file_of 1 33 (one 0 1000 4)) ≡ refused 2 []
  width_0 : judged (file_of 1 2 (one 0 0 4)) ≡ refused 10 []
  empty : judged [] ≡ refused 11 []
  forty_bytes : judged (take 40 (file_of 1 2 (one 0 1000 4))) ≡ refused 11 []
  byte_16 : judged (bytes (1 ∷ 2 ∷ 0 ∷ 0 ∷ 1 ∷ replicate 3 0)) ≡ refused 12 []
  next_5 : judged (file_of 1 2 (one 5 1000 4)) ≡ refused 13 []
  next-itself : judged (file_of 1 2 (one 1 1000 4)) ≡ refused 14 []
  count_4097 : judged (file_of 1 2 (one 0 1000 4097)) ≡ refused 15 []
  -- a link is judged whole before the next, and 10 before 15
  count_before_next : judged (file_of 1 2 (one 5 1000 4097)) ≡ refused 15 []
  region_before_count : judged (file_of 1 2 (one 0 0 4097)) ≡ refused 10 []
  -- a field as large as the region is accepted, and one that is larger on an axis is not; 10 is judged before that, and 15 after
  field-of-region : judged (with_field 1 2 1000 800 (one 0 1000 4)) ≡ accepted tt
  field_wider : judged (with_field 1 2 1001 800 (one 0 1000 4)) ≡ refused 16 []
  field_taller : judged (with_field 1 2 1000 801 (one 0 1000 4)) ≡ refused 16 []
  field-largest : judged (with_field 1 2 0xFFFFFFFF 0 (one 0 1000 4)) ≡ refused 16 []
  region_before_field : judged (with_field 1 2 1001 0 (one 0 0 4)) ≡ refused 10 []
  field_before_count : judged (with_field 1 2 1001 0 (one 0 1000 4097)) ≡ refused 16 []
  no_records_any_field : judged (with_field 0 2 0xFFFFFFFF 0xFFFFFFFF []) ≡ accepted tt

-- the link at which each judgement stops: where one is refused, and at the end of a chain that is accepted
record Stopped : Type 0 where
  next_5 : judge_stop no_further_tests (file_of 1 2 (one 5 1000 4)) ≡ record { holder = 1; named = 5 }
  next-itself : judge_stop no_further_tests (file_of 1 2 (one 1 1000 4)) ≡ record { holder = 1; named = 1 }
  count_4097 : judge_stop no_further_tests (file_of 1 2 (one 0 1000 4097)) ≡ record { holder = 0; named = 1 }
  field_wider : judge_stop no_further_tests (with_field 1 2 1001 0 (one 0 1000 4)) ≡ record { holder = 0; named = 1 }
  level_33 : judge_stop no_further_tests (file_of 1 33 (one 0 1000 4)) ≡ no_link
  end : judge_stop no_further_tests (file_of 1 2 (one 0 1000 4)) ≡ record { holder = 1; named = 0 }

stopped : Stopped
unfolding bytes with_field file_of one judge_stop granted first whole zeros chain_stop record_at word_at reader_field field_extent within takes
stopped = record { next_5 = refl; next-itself = refl; count_4097 = refl; field_wider = refl; level_33 = refl; end = refl }

examples : Judgements
unfolding bytes with_field file_of one judge_outcome first whole zeros chain_outcome record_at word_at reader_field field_extent within takes
examples = record {
  example = refl;
  no_records = refl;
  off_the_chain = refl;
  level_33 = refl;
  width_0 = refl;
  empty = refl;
  forty_bytes = refl;
  byte_16 = refl;
  next_5 = refl;
  next-itself = refl;
  count_4097 = refl;
  count_before_next = refl;
  region_before_count = refl;
  field-of-region = refl;
  field_wider = refl;
  field_taller = refl;
  field-largest = refl;
  region_before_field = refl;
  field_before_count = refl;
  no_records_any_field = refl;
}
