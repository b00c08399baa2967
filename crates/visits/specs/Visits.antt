-- The visits of a region file: for each record of its chain, those of the standard pair with the record's shift, in the record's region, so that
-- the reader's whole field lies in it.
use Rattle.std.specs.Prelude.{List, [], ◌∷◌, ◌++◌, map, ℕ}
use Rattle.ranges.specs.Range.{range}
use Rattle.net.specs.Sequence.{point}
use Rattle.refusal.specs.Outcome.{Outcome, accepted, then}
use Rattle.plan.specs.Pair.{only_shift, sequence, standard_pair}
use Rattle.stage.specs.declared.regions.Region.{Region}
use Rattle.stage.specs.declared.regions.Position.{Position}
use Rattle.stage.specs.Region.{corners, position_in, position_outcome}
use Rattle.region_file.specs.declared.records.Record.{Record}
use Rattle.region_file.specs.Records.{record_at, reader_field}
use Rattle.region_file.specs.Chain.{chain_numbers}
use Rattle.region_file.specs.Judge.{no_further_tests, judge_outcome}
use Rattle.visits.specs.declared.file_walks.FileVisit.{FileVisit}

-- a record with another region
abbrev pub with_region : Record → Region → Record
with_region r g = record { next = r.next; region = g; shift = r.shift; count = r.count }

-- record n as the planner reads it: its region is that of the places which the corner of the reader's field may take (C-12)
abbrev pub planned : List ℕ → ℕ → Record
planned file n = let r = record_at file n in with_region r (corners (reader_field file) r.region)

-- the point of index i in a record: that of the standard pair under the record's shift
abbrev pub record_point : Record → ℕ → ℕ × ℕ
record_point r i = point (sequence standard_pair (only_shift r.shift)) i

-- where the visit with index i of a record lies, the record being read as the planner does
unfoldable pub position_of : Record → ℕ → Position
position_of r i = let p = record_point r i in position_in r.region p.0 p.1

-- what asking where the visit with index i of record n lies comes to: the position call with the file's field, for the point of that index
abbrev pub visit_position_outcome : List ℕ → ℕ → ℕ → Outcome Position
visit_position_outcome file n i =
    let r = record_at file n in
    let p = record_point r i in
    position_outcome (reader_field file) r.region p.0 p.1

-- the visit with index i of the record r, whose number is n; r is read so
abbrev pub file_visit : ℕ → Record → ℕ → FileVisit
file_visit n r i = record { number = n; index = i; x = (position_of r i).x; y = (position_of r i).y }

-- its k visits from index i on
abbrev pub record_visits : ℕ → Record → ℕ → ℕ → List FileVisit
record_visits n r i k = map (file_visit n r) (range i k)

-- the visits of the records with these numbers, one record after the other, each from index 0 on
unfoldable pub visits_of : List ℕ → List ℕ → List FileVisit
visits_of file [] = []
visits_of file (n ∷ ns) = record_visits n (planned file n) 0 (planned file n).count ++ visits_of file ns

-- the visits of a file, in the order of its chain
unfoldable pub file_visits : List ℕ → List FileVisit
file_visits file = visits_of file (chain_numbers file)

-- and what asking for them comes to
abbrev pub visits_outcome : List ℕ → Outcome (List FileVisit)
visits_outcome file = then (judge_outcome no_further_tests file) (accepted (file_visits file))
