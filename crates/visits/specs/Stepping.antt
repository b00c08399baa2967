-- Inner promises: a position in the walk's record, a step within the record, and the walk at the next record that has a visit.
use Rattle.std.specs.Prelude.{◌≡◌, cond, not, ◌&&◌, List, [], ◌⊎◌, ℕ, ◌+◌, ◌<◌, leb, Option, Some, None}
use Rattle.refusal.specs.Outcome.{Outcome}
use Rattle.stage.specs.declared.regions.Position.{Position}
use Rattle.stage.specs.Region.{within, corner_outcome}
use Rattle.region_file.specs.declared.records.Record.{Record}
use Rattle.visits.specs.declared.file_walks.FileVisit.{FileVisit}
use Rattle.visits.specs.declared.file_walks.FileWalk.{FileWalk}
use Rattle.visits.specs.Visits.{record_point, file_visit}
use Rattle.visits.specs.FileWalk.{visits_from, links_counted, visits_to_come}

-- where the visit with index i of the walk's record lies, or 10: the record has been read for the reader's field already
abbrev pub planned_position_outcome : Record → ℕ → Outcome Position
planned_position_outcome r i = let p = record_point r i in corner_outcome r.region p.0 p.1

-- the walk after the visit at its index
abbrev pub after_visit : FileWalk → FileWalk
after_visit p = record { number = p.number; planned = p.planned; index = p.index + 1; links = p.links }

-- a step that does not leave the walk's record: the visit at its index, or the end where the record has no such visit or no position
unfoldable pub step_in_record : FileWalk → Option FileVisit × FileWalk
step_in_record p =
    cond (not (leb p.planned.count p.index) && within p.planned.region)
    (Some (file_visit p.number p.planned p.index), after_visit p) (None, p)

-- from the walk p the visits of the chain that begins with record n are to come, over as many of the links as count, and p has a visit at its
-- index unless none is to come
pub record AtNextVisit (file : List ℕ) (n links : ℕ) (p : FileWalk) : Type 0 where
  pub same : visits_to_come file p ≡ visits_from file (links_counted links) n
  pub ready : (p.index < p.planned.count) ⊎ (visits_to_come file p ≡ [])
