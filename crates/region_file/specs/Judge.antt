-- What the judgement of a region file comes to: tests of the file and its record 0, and then of each link of the chain.
use Rattle.std.specs.Prelude.{Bool, false, cond, not, ◌&&◌, ◌||◌, List, [], ◌∷◌, ◌++◌, ℕ, zero, suc, ◌%◌, eqb, leb, ltb, length}
use Rattle.refusal.specs.Outcome.{Outcome, accepted, refused, Test, first, granted}
use Rattle.plan.specs.Pair.{unknown_level}
use Rattle.stage.specs.declared.regions.Field.{Field}
use Rattle.stage.specs.Region.{position_tests}
use Rattle.region_file.specs.declared.records.Record.{Record}
use Rattle.region_file.specs.declared.chains.Link.{Link}
use Rattle.region_file.specs.Records.{
  record_bytes,
  record_at,
  first_record,
  file_level,
  reader_field,
  reserved_zero,
  record_count,
  most_bytes,
  most_records,
}
use Rattle.region_file.specs.Chain.{first_link, link_in, no_link}

-- not empty, not longer than the longest file, and whole records
unfoldable pub whole : ℕ → Bool
whole bytes = not (eqb bytes 0) && (not (ltb most_bytes bytes) && eqb (bytes % record_bytes) 0)

-- 11: not a whole file
abbrev pub not_whole : List ℕ → Test
not_whole file = record { number = 11; holds = not (whole (length file)) }

-- 12: the reserved bytes are not all zero
abbrev pub reserved_used : List ℕ → Test
reserved_used file = record { number = 12; holds = not (reserved_zero file) }

-- the tests of the file and its record 0, in order
abbrev pub head_tests : List ℕ → List Test
head_tests file = not_whole file ∷ unknown_level (file_level file) ∷ reserved_used file ∷ []

-- 13: the file has no record n
abbrev pub missing : List ℕ → ℕ → Test
missing file n = record { number = 13; holds = leb (record_count file) n }

-- 14: an earlier link named the record
abbrev pub returning : Bool → Test
returning seen = record { number = 14; holds = seen }

-- the largest count of visits that a record may have
abbrev pub most_visits : ℕ
most_visits = 4096

-- 15: the count is above it
abbrev pub too_many : Record → Test
too_many r = record { number = 15; holds = ltb most_visits r.count }

-- the tests of a record that the listing makes after 15: none. A loader that accepts fewer files gives a list of its own, which every
-- definition of a whole judgement takes as `further`.
abbrev pub no_further_tests : Record → List Test
no_further_tests r = []

-- the tests of a record by itself, in order: 10 and 16 of its region with the reader's field, 15, and the further ones
abbrev pub record_tests : (Record → List Test) → Field → Record → List Test
record_tests further f r = position_tests f r.region ++ (too_many r ∷ further r)

-- those that a loader makes of the records of a file: the field is the file's
abbrev pub loader_tests : (Record → List Test) → List ℕ → Record → List Test
loader_tests further file = record_tests further (reader_field file)

-- and those that the listing makes
abbrev pub listing_tests : List ℕ → Record → List Test
listing_tests = loader_tests no_further_tests

-- The chain of a file is judged by any list of tests of a record, `tests`; those of the listing and of other loaders are `loader_tests`.

-- the tests of a link that names record n, in order. `seen`: an earlier link named it.
abbrev pub link_tests : (Record → List Test) → List ℕ → Bool → ℕ → List Test
link_tests tests file seen n = missing file n ∷ returning seen ∷ tests (record_at file n)

-- what each list of tests comes to by itself
abbrev pub head_outcome : List ℕ → Outcome Unit
head_outcome file = first (head_tests file) (accepted tt)

abbrev pub record_outcome : (Record → List Test) → Record → Outcome Unit
record_outcome tests r = first (tests r) (accepted tt)

abbrev pub link_outcome : (Record → List Test) → List ℕ → Bool → ℕ → Outcome Unit
link_outcome tests file seen n = first (link_tests tests file seen n) (accepted tt)

-- the records that links have named: none before the first link
abbrev pub nowhere : ℕ → Bool
nowhere k = false

-- after a link that names n: n, and those before it
abbrev pub also : ℕ → (ℕ → Bool) → ℕ → Bool
also n visited k = eqb k n || visited k

-- the judgement of the links from the number n on, after links that named the records `visited`. Number 0 ends the chain. A chain that has
-- not ended after `links` links is refused under 14; from most_records on the number of links never matters (`ChainsEnd`).
unfoldable pub chain_outcome : (Record → List Test) → List ℕ → ℕ → (ℕ → Bool) → ℕ → Outcome Unit
chain_outcome tests file zero visited n = refused 14 []
chain_outcome tests file (suc links) visited n =
    cond (eqb n 0) (accepted tt)
    (first (link_tests tests file (visited n) n) (chain_outcome tests file links (also n visited) (record_at file n).next))

-- the judgement of the whole file
unfoldable pub judge_outcome : (Record → List Test) → List ℕ → Outcome Unit
judge_outcome further file = first (head_tests file) (chain_outcome (loader_tests further file) file most_records nowhere (first_record file))

-- ---- where it stops

-- the link at which the judgement of the links from `at` on stops: the first that is refused, or the one that ends the chain
unfoldable pub chain_stop : (Record → List Test) → List ℕ → ℕ → (ℕ → Bool) → Link → Link
chain_stop tests file zero visited at = at
chain_stop tests file (suc links) visited at =
    let n = at.named in
    cond (eqb n 0) at
    (granted (link_outcome tests file (visited n) n) (chain_stop tests file links (also n visited) (link_in file n)) at)

-- that of the whole file: none where the tests of the file and its record 0 refuse it
unfoldable pub judge_stop : (Record → List Test) → List ℕ → Link
judge_stop further file =
    granted (head_outcome file) (chain_stop (loader_tests further file) file most_records nowhere (first_link file)) no_link
