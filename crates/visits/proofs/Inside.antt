-- The reader's field lies in the region of its record at every visit of an accepted file: the coordinates of a visit are words, since the words
-- of the shift are, and the position call gives what C-12 says of all words.
-- Assumes nothing.
use mathlib.Core.Path.{◌≡◌}
use mathlib.Core.List.{List}
use Prim.Native.Nat.{ℕ, ◌^◌, ◌<◌}
use Rattle.ranges.specs.Below.{Below}
use Rattle.digits.proofs.Two.{one_lt_two}
use Rattle.net.specs.Sequence.{Fits}
use Rattle.net.proofs.Columns.{standard-valid}
use Rattle.net.proofs.Interval.{plain_fits}
use Rattle.net.proofs.Scrambling.{scrambled_fits}
use Rattle.refusal.specs.Outcome.{accepted, Test}
use Rattle.flips.specs.Load.{no_flips}
use Rattle.flips.proofs.Scrambled.{scrambled-lawful}
use Rattle.plan.specs.declared.points.Shift.{Shift}
use Rattle.plan.specs.Pair.{only_shift, sequence, standard_pair}
use Rattle.stage.proofs.Theorem.{theorems}
use Rattle.region_file.specs.declared.records.Record.{Record}
use Rattle.region_file.specs.Records.{record_at, reader_field}
use Rattle.region_file.specs.Judge.{judge_outcome}
use Rattle.region_file.proofs.Words.{word_lt}
use Rattle.visits.specs.declared.file_walks.FileVisit.{FileVisit}
use Rattle.visits.specs.Visits.{record_point, file_visits}
use Rattle.visits.specs.Theorem.{Among, HasPosition}
use Rattle.visits.proofs.FileVisits.{visit_iff}

sequence-fits : (s : Shift) → s.x < 2 ^ 32 → s.y < 2 ^ 32 → Fits (sequence standard_pair (only_shift s))
sequence-fits s hx hy =
    scrambled_fits (plain_fits (standard-valid one_lt_two 32 32))
    (record { x = scrambled-lawful no_flips.x s.x hx; y = scrambled-lawful no_flips.y s.y hy })

-- the points of a record of a file of bytes are words
pub record_fits : (file : List ℕ) → Below 256 file → (n : ℕ) → Fits (sequence standard_pair (only_shift (record_at file n).shift))
unfolding record_at
record_fits file bytes n = sequence-fits (record_at file n).shift (word_lt file bytes _) (word_lt file bytes _)

pub fields_inside : (further : Record → List Test) (file : List ℕ) → Below 256 file → judge_outcome further file ≡ accepted tt
    → (v : FileVisit) → Among v (file_visits file) → HasPosition file v
fields_inside further file bytes e v m =
    let r = record_at file v.number in
    let p = record_point r v.index in
    let fits = record_fits file bytes v.number in
    let placed = ((visit_iff further file e v).0 m).placed in
    theorems.given (reader_field file) r.region p.0 p.1 (record { x = v.x; y = v.y }) (fits.x v.index) (fits.y v.index) placed
