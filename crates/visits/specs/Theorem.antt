-- What users rely on: the steps from an opened file give its visits, one after the other, and then the end; which visits a file has; that the
-- reader's field lies in its region at each; and that files without a field have the visits that they had.
use Rattle.std.specs.Prelude.{◌≡◌, true, cond, ◌&&◌, List, [], ◌∷◌, ◌⊎◌, ◌↔◌, ℕ, zero, suc, ◌≤◌, ◌<◌, eqb, ltb, length, Option, Some, None, Ok}
use Rattle.ranges.specs.Below.{Below}
use Rattle.net.specs.Sequence.{point}
use Rattle.net.specs.Scrambling.{shifted}
use Rattle.refusal.specs.Outcome.{accepted, Test}
use Rattle.refusal.specs.Refusal.{of_result}
use Rattle.plan.specs.Pair.{generators, standard_pair}
use Rattle.stage.specs.Theorem.{PositionOf}
use Rattle.region_file.specs.declared.records.Record.{Record}
use Rattle.region_file.specs.Records.{record_at, reader_field, zeros, most_records}
use Rattle.region_file.specs.Chain.{on_chain}
use Rattle.region_file.specs.Judge.{judge_outcome}
use Rattle.visits.specs.declared.file_walks.FileVisit.{FileVisit}
use Rattle.visits.specs.declared.file_walks.FileWalk.{FileWalk}
use Rattle.visits.specs.Visits.{planned, record_point, visit_position_outcome, file_visit, file_visits, visits_outcome}
use Rattle.visits.specs.Base.{base_visits_outcome}
use Rattle.visits.specs.FileWalk.{links_counted, visits_to_come, Gives}

-- ---- steps

-- steps one after the other, each from the walk that the one before left
pub data Steps (file : List ℕ) : FileWalk → List (Option FileVisit) → FileWalk → Type 0 where
  no_step : (p : FileWalk) → Steps file p [] p
  first_step : (p q r : FileWalk) (s : Option FileVisit) (ss : List (Option FileVisit)) → Gives file p s q → Steps file q ss r
      → Steps file p (s ∷ ss) r

-- what n steps give where these visits are to come: the visits, and the end in every step after them
unfoldable pub file_answers : ℕ → List FileVisit → List (Option FileVisit)
file_answers zero vs = []
file_answers (suc n) [] = None ∷ file_answers n []
file_answers (suc n) (v ∷ vs) = Some v ∷ file_answers n vs

-- ---- the visits of a file

-- v is one of the list
abbrev pub Among : FileVisit → List FileVisit → Type 0
Among v [] = ⊥
Among v (w ∷ ws) = (v ≡ w) ⊎ Among v ws

-- v is a visit of the file: its record is on the chain, its index is below the record's count, and its position is where the visit of
-- the record with that index lies
pub record VisitOf (file : List ℕ) (v : FileVisit) : Type 0 where
  pub chained : on_chain file v.number ≡ true
  pub counted : v.index < (record_at file v.number).count
  pub placed : visit_position_outcome file v.number v.index ≡ accepted (record { x = v.x; y = v.y })

-- the position of v is C-12's, of the point of its index under its record's shift, with the file's field in its record's region
abbrev pub HasPosition : List ℕ → FileVisit → Type 0
HasPosition file v =
    let r = record_at file v.number in
    let p = record_point r v.index in
    PositionOf (reader_field file) r.region p.0 p.1 (record { x = v.x; y = v.y })

-- those of a list of visits that have the record number n and the index i
unfoldable pub visits_at : ℕ → ℕ → List FileVisit → List FileVisit
visits_at n i [] = []
visits_at n i (v ∷ vs) = cond (eqb v.number n && eqb v.index i) (v ∷ visits_at n i vs) (visits_at n i vs)

pub record Theorems : Type 0 where
  -- from any walk over any file
  pub steps : (file : List ℕ) (p q : FileWalk) (ss : List (Option FileVisit)) → Steps file p ss q
      → ss ≡ file_answers (length ss) (visits_to_come file p)
  -- ONE claim about the list of steps from the walk that `open` gives
  pub listed : (file : List ℕ) (p q : FileWalk) (ss : List (Option FileVisit)) → of_result (visits_to_come file) (Ok p) ≡ visits_outcome file
      → Steps file p ss q → ss ≡ file_answers (length ss) (file_visits file)
  -- of an accepted file, whatever further tests it passed: a visit is among the file's visits exactly where its record is on the chain, its
  -- index is below the record's count, and its position is where the visit of the record with that index lies
  pub visit_iff : (further : Record → List Test) (file : List ℕ) → judge_outcome further file ≡ accepted tt
      → (v : FileVisit) → Among v (file_visits file) ↔ VisitOf file v
  -- and no record and index occur twice: once where the record is on the chain and the index below its count, and else never
  pub once : (further : Record → List Test) (file : List ℕ) → judge_outcome further file ≡ accepted tt
      → (n i : ℕ) → visits_at n i (file_visits file)
      ≡ cond (on_chain file n && ltb i (record_at file n).count) (file_visit n (planned file n) i ∷ []) []
  -- of every visit of an accepted file of bytes the whole field lies in the region of its record, at the place that C-12's formula gives
  pub fields_inside : (further : Record → List Test) (file : List ℕ) → Below 256 file → judge_outcome further file ≡ accepted tt
      → (v : FileVisit) → Among v (file_visits file) → HasPosition file v
  -- a file carries no flips: the points of its visits are those of the standard pair under the record's shift alone, as 01 has them
  pub without_flips : (r : Record) (i : ℕ) → record_point r i ≡ point (shifted (generators standard_pair) r.shift.x r.shift.y) i
  -- a file whose bytes 8 to 15 are zero has the visits that it had by 01, or its refusal
  pub as_before : (file : List ℕ) → zeros file 8 8 ≡ true → visits_outcome file ≡ base_visits_outcome file
  -- of a walk that may follow no more links than a file can have records every link counts
  pub every_link_counts : (links : ℕ) → links ≤ most_records → links_counted links ≡ links
