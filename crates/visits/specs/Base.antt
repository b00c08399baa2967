-- 01's visits of a region file, from before record 0 had a reader's field (C-12): each lies at left + floor (x * width / 2 ^ 32) and top + floor
-- (y * height / 2 ^ 32) of its record. `Theorem` says which files still have these.
use Rattle.std.specs.Prelude.{List, [], ◌∷◌, ◌++◌, map, ℕ}
use Rattle.ranges.specs.Range.{range}
use Rattle.refusal.specs.Outcome.{Outcome, accepted, then}
use Rattle.stage.specs.Base.{base_position}
use Rattle.region_file.specs.declared.records.Record.{Record}
use Rattle.region_file.specs.Records.{record_at}
use Rattle.region_file.specs.Chain.{chain_numbers}
use Rattle.region_file.specs.Base.{base_judge_outcome}
use Rattle.visits.specs.declared.file_walks.FileVisit.{FileVisit}
use Rattle.visits.specs.Visits.{record_point}

-- the visit with index i of the record r, whose number is n
abbrev pub base_file_visit : ℕ → Record → ℕ → FileVisit
base_file_visit n r i =
    let p = record_point r i in
    let at = base_position r.region p.0 p.1 in
    record { number = n; index = i; x = at.x; y = at.y }

-- the visits of the records with these numbers, one record after the other, each from index 0 on
unfoldable pub base_visits_of : List ℕ → List ℕ → List FileVisit
base_visits_of file [] = []
base_visits_of file (n ∷ ns) = map (base_file_visit n (record_at file n)) (range 0 (record_at file n).count) ++ base_visits_of file ns

-- those of a file that is judged as 01 has it, or its refusal
abbrev pub base_visits_outcome : List ℕ → Outcome (List FileVisit)
base_visits_outcome file = then (base_judge_outcome file) (accepted (base_visits_of file (chain_numbers file)))
