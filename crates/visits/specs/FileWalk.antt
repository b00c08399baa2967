-- The visits still to come from a walk, whatever its fields and the file.
use Rattle.std.specs.Prelude.{◌≡◌, Bool, cond, not, ◌&&◌, List, [], ◌∷◌, ◌++◌, ℕ, zero, suc, ◌-◌, min, eqb, leb, pos, Option, Some, None}
use Rattle.stage.specs.Region.{within, takes}
use Rattle.region_file.specs.Records.{record_at, reader_field, record_count, most_records}
use Rattle.visits.specs.declared.file_walks.FileVisit.{FileVisit}
use Rattle.visits.specs.declared.file_walks.FileWalk.{FileWalk}
use Rattle.visits.specs.Visits.{planned, record_visits}

-- n names a record of the file whose region lies within its limits and takes the reader's field
unfoldable pub listable : List ℕ → ℕ → Bool
listable file n =
    let r = (record_at file n).region in
    not (eqb n 0) && (not (leb (record_count file) n) && (within r && takes (reader_field file) r))

-- the visits of the chain that begins with record n, over at most `links` records, up to a number that is not listable
unfoldable pub visits_from : List ℕ → ℕ → ℕ → List FileVisit
visits_from file zero n = []
visits_from file (suc links) n =
    cond (listable file n) (record_visits n (planned file n) 0 (planned file n).count ++ visits_from file links (planned file n).next) []

-- the number of links that count where a walk says how many may follow: no more than a file can have records, so that a step looks at no
-- more records, also of a walk made by hand
abbrev pub links_counted : ℕ → ℕ
links_counted links = min links most_records

-- the visits to come from a walk: those left of its record, and then those of the chain that begins with the record's next number.
-- A walk whose region is outside its limits has none.
unfoldable pub visits_to_come : List ℕ → FileWalk → List FileVisit
visits_to_come file p =
    let r = p.planned in
    cond (within r.region)
    (record_visits p.number r p.index (r.count - p.index) ++ visits_from file (links_counted p.links) r.next) []

-- what a step gives: the first visit to come with the walk after it, or the end where none is to come
abbrev pub Gives : List ℕ → FileWalk → Option FileVisit → FileWalk → Type 0
Gives file p (Some v) q = visits_to_come file p ≡ v ∷ visits_to_come file q
Gives file p None q = (visits_to_come file p ≡ []) × (visits_to_come file q ≡ [])

-- a walk before the record `next`: it holds a record without visits, whose next is `next`
abbrev pub before_record : ℕ → ℕ → FileWalk
before_record next links = record {
  number = 0;
  planned = record {
    next = next;
    region = record { left = pos 0; top = pos 0; width = 1; height = 1 };
    shift = record { x = 0; y = 0 };
    count = 0;
  };
  index = 0;
  links = links;
}

-- a walk that has ended: no record follows
abbrev pub ended_walk : FileWalk
ended_walk = before_record 0 0
