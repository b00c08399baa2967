-- 01's judgement of a region file, from before record 0 had a reader's field (C-12): bytes 8 to 31 of record 0 are reserved, and of a record 10
-- and 15 are tested. `Theorem` says which files are still judged so.
use Rattle.std.specs.Prelude.{not, List, [], ◌∷◌, ℕ}
use Rattle.refusal.specs.Outcome.{Outcome, accepted, Test, first, granted}
use Rattle.plan.specs.Pair.{unknown_level}
use Rattle.stage.specs.Region.{outside}
use Rattle.region_file.specs.declared.records.Record.{Record}
use Rattle.region_file.specs.declared.chains.Link.{Link}
use Rattle.region_file.specs.Records.{first_record, file_level, zeros, most_records}
use Rattle.region_file.specs.Chain.{first_link, no_link}
use Rattle.region_file.specs.Judge.{not_whole, too_many, nowhere, chain_outcome, chain_stop}

-- 11, 2, and 12 of bytes 8 to 31
abbrev pub base_head_tests : List ℕ → List Test
base_head_tests file = not_whole file ∷ unknown_level (file_level file) ∷ record { number = 12; holds = not (zeros file 8 24) } ∷ []

-- 10 and 15
abbrev pub base_record_tests : Record → List Test
base_record_tests r = outside r.region ∷ too_many r ∷ []

-- the judgement of the whole file
unfoldable pub base_judge_outcome : List ℕ → Outcome Unit
base_judge_outcome file = first (base_head_tests file) (chain_outcome base_record_tests file most_records nowhere (first_record file))

-- and where it stops
unfoldable pub base_judge_stop : List ℕ → Link
base_judge_stop file =
    granted {A = Unit} (first (base_head_tests file) (accepted tt)) (chain_stop base_record_tests file most_records nowhere (first_link file)) no_link
