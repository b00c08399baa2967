-- The laws of the visits to come from a walk, one for each case of the code; and that from a file's first record the visits to come are the
-- file's, if it is accepted.
-- Assumes nothing.
use mathlib.Core.Path.{◌≡◌, refl, sym, ap, ap₂, ◌∙◌}
use mathlib.Core.Bool.{Bool, true, false, not, ◌&&◌}
use mathlib.Core.List.{List, [], ◌∷◌, ◌++◌, map}
use mathlib.Core.Logic.{◌⊎◌, inl, inr}
use Prim.Native.Nat.{ℕ, zero, suc, ◌+◌, ◌-◌, ◌≤◌, ◌<◌}
use native.Mathlib.Nat.{lt_irrefl, le_refl}
use native.Mathlib.Omega.{arith}
use borrow.Author.Tests.{eq-eqb, ne_eqb, lt-leb, not-false}
use lib.Dec.{eqb, leb}
use Rattle.ranges.specs.Range.{range}
use Rattle.ranges.proofs.Tests.{both_hold}
use Rattle.refusal.specs.Outcome.{accepted, refused, Test}
use Rattle.refusal.proofs.First.{first-none, first_passes, first-accepted, accepted-refused, accepted-same}
use Rattle.stage.specs.declared.regions.Position.{Position}
use Rattle.stage.specs.Region.{within, takes}
use Rattle.stage.proofs.Fit.{corners-within}
use Rattle.region_file.specs.declared.records.Record.{Record}
use Rattle.region_file.specs.Records.{record_at, reader_field, record_count, most_records}
use Rattle.region_file.specs.Chain.{numbers}
use Rattle.region_file.specs.Judge.{loader_tests, chain_outcome}
use Rattle.region_file.proofs.Chain.{sound, Linked, linked, chain_some}
use Rattle.visits.specs.declared.file_walks.FileVisit.{FileVisit}
use Rattle.visits.specs.declared.file_walks.FileWalk.{FileWalk}
use Rattle.visits.specs.Visits.{planned, position_of, file_visit, record_visits, visits_of}
use Rattle.visits.specs.FileWalk.{listable, visits_from, links_counted, visits_to_come, before_record, ended_walk}
use Rattle.visits.specs.Stepping.{planned_position_outcome, after_visit}

-- the visits of a record, where there are some and where there are none
record_visits-more : (n : ℕ) (r : Record) (i k : ℕ) → 0 < k → record_visits n r i k ≡ file_visit n r i ∷ record_visits n r (i + 1) (k - 1)
unfolding range
record_visits-more n r i zero h = absurd (lt_irrefl 0 h)
record_visits-more n r i (suc k) h =
    let p : suc i ≡ i + 1 = omega arith in
    let q : k ≡ suc k - 1 = omega arith in
    ap (λ (s : List ℕ). file_visit n r i ∷ map (file_visit n r) s) (ap (λ (j : ℕ). range j k) p ∙ ap (range (i + 1)) q)

record_visits-none : (n : ℕ) (r : Record) (i k : ℕ) → k ≤ 0 → record_visits n r i k ≡ []
unfolding range
record_visits-none n r i zero h = refl
record_visits-none n r i (suc k) h = absurd (omega arith)

-- ---- records that are listable

pub listable-zero : (file : List ℕ) (n : ℕ) → n ≡ 0 → listable file n ≡ false
unfolding listable
listable-zero file n e = simp (eq-eqb n 0 e)

pub listable-region : (file : List ℕ) (n : ℕ) → (n ≡ 0 → ⊥) → n < record_count file
    → listable file n ≡ (within (record_at file n).region && takes (reader_field file) (record_at file n).region)
unfolding listable
listable-region file n e h = simp (ne_eqb n 0 e, lt-leb _ _ h)

-- the places of the corner are then a region within the limits
listable-within : (file : List ℕ) (n : ℕ) → listable file n ≡ true → within (planned file n).region ≡ true
unfolding listable
listable-within file n e =
    let f = reader_field file in
    let r = (record_at file n).region in
    let some = both_hold (not (eqb n 0)) _ e in
    let here = both_hold (not (leb (record_count file) n)) _ some.1 in
    let both = both_hold (within r) (takes f r) here.1 in
    corners-within f r both.0 both.1

-- ---- a visit's position

pub refused-outside : (r : Record) (i : ℕ) {k : ℕ} {vs : List ℕ} → planned_position_outcome r i ≡ refused k vs → within r.region ≡ false
unfolding position_of
refused-outside r i e = go (within r.region) refl
  where
    go : (b : Bool) → within r.region ≡ b → within r.region ≡ false
    go false h = h
    go true h = absurd (accepted-refused (sym (first_passes (accepted (position_of r i)) 10 [] (ap not h) ∙ first-none _) ∙ e))

pub accepted-inside : (r : Record) (i : ℕ) {p : Position} → planned_position_outcome r i ≡ accepted p
    → (within r.region ≡ true) × (position_of r i ≡ p)
unfolding position_of
accepted-inside r i e =
    let h = first-accepted (accepted (position_of r i)) 10 [] (not (within r.region)) e in
    (not-false _ h.0, accepted-same (sym (first-none _) ∙ h.1))

-- ---- the visits of the chain from a record on

pub visits_from-none : (file : List ℕ) (links n : ℕ) → links ≤ 0 → visits_from file links n ≡ []
unfolding visits_from
visits_from-none file zero n h = refl
visits_from-none file (suc links) n h = absurd (omega arith)

pub visits_from-stop : (file : List ℕ) (links n : ℕ) → listable file n ≡ false → visits_from file links n ≡ []
unfolding visits_from
visits_from-stop file zero n h = refl
visits_from-stop file (suc links) n h = simp h

visits_from-more : (file : List ℕ) (links n : ℕ) → 0 < links → listable file n ≡ true
    → visits_from file links n ≡ record_visits n (planned file n) 0 (planned file n).count ++ visits_from file (links - 1) (planned file n).next
unfolding visits_from
visits_from-more file zero n p h = absurd (lt_irrefl 0 p)
visits_from-more file (suc links) n p h =
    let q : links ≡ suc links - 1 = omega arith in
    simp h (ap (λ (k : ℕ). record_visits n (planned file n) 0 (planned file n).count ++ visits_from file k (planned file n).next) q)

-- a record without visits is passed over
pub visits_from-empty : (file : List ℕ) (links n : ℕ) → 0 < links → listable file n ≡ true → (planned file n).count ≤ 0
    → visits_from file links n ≡ visits_from file (links - 1) (planned file n).next
visits_from-empty file links n p h e =
    visits_from-more file links n p h ∙ ap (λ (l : List FileVisit). l ++ visits_from file (links - 1) (planned file n).next)
    (record_visits-none n (planned file n) 0 (planned file n).count e)

-- ---- the visits to come from a walk

module _ (file : List ℕ) (p : FileWalk) where
  to_come-within : within p.planned.region ≡ true
      → visits_to_come file p
      ≡ record_visits p.number p.planned p.index (p.planned.count - p.index)
      ++ visits_from file (links_counted p.links) p.planned.next
  unfolding visits_to_come
  to_come-within e = simp e

  pub to_come-outside : within p.planned.region ≡ false → visits_to_come file p ≡ []
  unfolding visits_to_come
  to_come-outside e = simp e

  -- where its record has no visit left, those of the chain from the next record on
  pub to_come-next : within p.planned.region ≡ true → p.planned.count ≤ p.index
      → visits_to_come file p ≡ visits_from file (links_counted p.links) p.planned.next
  to_come-next e h =
      let none : p.planned.count - p.index ≤ 0 = omega arith in
      to_come-within e ∙ ap (λ (l : List FileVisit). l ++ visits_from file (links_counted p.links) p.planned.next)
      (record_visits-none p.number p.planned p.index (p.planned.count - p.index) none)

-- where its record has one left, that visit and those to come from the walk after it
pub to_come-first : (file : List ℕ) (p : FileWalk) → within p.planned.region ≡ true → p.index < p.planned.count
    → visits_to_come file p ≡ file_visit p.number p.planned p.index ∷ visits_to_come file (after_visit p)
to_come-first file p e h =
    let n = p.number in
    let r = p.planned in
    let i = p.index in
    let rest = visits_from file (links_counted p.links) r.next in
    let some : 0 < r.count - i = omega arith in
    let one : r.count - i - 1 ≡ r.count - (i + 1) = omega arith in
    to_come-within file p e
    ∙ ap (λ (l : List FileVisit). l ++ rest)
    (record_visits-more n r i (r.count - i) some ∙ ap (λ (k : ℕ). file_visit n r i ∷ record_visits n r (i + 1) k) one)
    ∙ ap (λ (l : List FileVisit). file_visit n r i ∷ l) (sym (to_come-within file (after_visit p) e))

-- the walk at the start of record n
abbrev pub start_of : ℕ → Record → ℕ → FileWalk
start_of n r links = record { number = n; planned = r; index = 0; links = links }

pub start_comes : (file : List ℕ) (links n : ℕ) → 0 < links → links ≤ most_records → listable file n ≡ true
    → visits_to_come file (start_of n (planned file n) (links - 1)) ≡ visits_from file links n
start_comes file links n p few h =
    let r = planned file n in
    let all : r.count - 0 ≡ r.count = omega arith in
    let counted : links_counted (links - 1) ≡ links - 1 = omega arith in
    to_come-within file (start_of n r (links - 1)) (listable-within file n h)
    ∙ ap₂ (λ (k l : ℕ). record_visits n r 0 k ++ visits_from file l r.next) all counted
    ∙ sym (visits_from-more file links n p h)

-- from the walk before a record, those of the chain that begins with the record
before_within : (next links : ℕ) → within (before_record next links).planned.region ≡ true
unfolding within
before_within next links = refl

pub before_comes : (file : List ℕ) (next links : ℕ) → visits_to_come file (before_record next links) ≡ visits_from file (links_counted links) next
before_comes file next links =
    let none : (before_record next links).planned.count ≤ (before_record next links).index = omega arith in
    to_come-next file (before_record next links) (before_within next links) none

pub ended_comes : (file : List ℕ) → visits_to_come file ended_walk ≡ []
ended_comes file = before_comes file 0 0 ∙ visits_from-none file 0 0 (le_refl 0)

-- ---- an accepted file

pub visits_from-accepted : (further : Record → List Test) (file : List ℕ) (links : ℕ) (v : ℕ → Bool) (n : ℕ)
    → chain_outcome (loader_tests further file) file links v n ≡ accepted tt
    → visits_from file links n ≡ visits_of file (numbers file links n)
unfolding visits_from numbers visits_of
visits_from-accepted further file zero v n h = absurd (chain_some (loader_tests further file) file v n h)
visits_from-accepted further file (suc links) v n h =
    go (linked (loader_tests further file) file links v n h) (λ v n h. visits_from-accepted further file links v n h)
  where
    go : (n ≡ 0) ⊎ Linked (loader_tests further file) file links v n →
        ((v : ℕ → Bool) (n : ℕ) → chain_outcome (loader_tests further file) file links v n ≡ accepted tt
        → visits_from file links n ≡ visits_of file (numbers file links n))
        → visits_from file (suc links) n ≡ visits_of file (numbers file (suc links) n)
    go (inl e) more = simp (listable-zero file n e, eq-eqb n 0 e)
    go (inr l) more =
        let own = sound further (reader_field file) (record_at file n) l.link.own in
        let listed = listable-region file n l.some l.link.here ∙ ap₂ (λ (a b : Bool). a && b) own.inside own.taken in
        simp (listed, ne_eqb n 0 l.some, more _ _ l.rest)
