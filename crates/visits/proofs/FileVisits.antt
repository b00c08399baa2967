-- The visits of an accepted file, by record and index: each occurs once, where the record is on the chain and has so many visits.
-- The chain names no record twice, and a record's visits have the indexes of a range.
-- Assumes nothing.
use mathlib.Core.Path.{◌≡◌, refl, sym, ap, ap₂, ◌∙◌, subst}
use mathlib.Core.Bool.{Bool, true, false, cond, ◌&&◌, ◌||◌}
use mathlib.Core.List.{List, [], ◌∷◌, ◌++◌, append-nil}
use mathlib.Core.Logic.{◌⊎◌, inl, inr, ◌↔◌}
use Prim.Native.Nat.{ℕ, zero, suc, ◌+◌, ◌≤◌, ◌<◌}
use native.Mathlib.Omega.{arith}
use borrow.Author.Tests.{eq-eqb, ne_eqb, eqb-true, eqb-false, lt-ltb, ltb-true, ltb-false}
use lib.Dec.{eqb, ltb}
use Rattle.ranges.specs.Range.{range}
use Rattle.ranges.proofs.Tests.{both_hold}
use Rattle.refusal.specs.Outcome.{accepted, Test}
use Rattle.refusal.proofs.First.{accepted-same}
use Rattle.stage.specs.declared.regions.Position.{Position}
use Rattle.stage.proofs.Fit.{both_pass, pass_both}
use Rattle.region_file.specs.declared.records.Record.{Record}
use Rattle.region_file.specs.Records.{record_at, first_record, reader_field, most_records}
use Rattle.region_file.specs.Chain.{numbers, member, on_chain}
use Rattle.region_file.specs.Judge.{loader_tests, nowhere, also, chain_outcome, judge_outcome}
use Rattle.region_file.proofs.Chain.{sound, Linked, linked, chain_some, judged_chain}
use Rattle.region_file.proofs.Numbers.{member-visited, member-passes}
use Rattle.visits.specs.declared.file_walks.FileVisit.{FileVisit}
use Rattle.visits.specs.Visits.{planned, position_of, file_visit, record_visits, visits_of, file_visits}
use Rattle.visits.specs.Theorem.{Among, VisitOf, visits_at}

-- ---- the visits of a list that have record number n and index i

module _ (n i : ℕ) where
  visits_at-append : (vs ws : List FileVisit) → visits_at n i (vs ++ ws) ≡ visits_at n i vs ++ visits_at n i ws
  unfolding visits_at
  visits_at-append [] ws = refl
  visits_at-append (v ∷ vs) ws = go (eqb v.number n && eqb v.index i) (visits_at-append vs ws)
    where
      go : (b : Bool) → visits_at n i (vs ++ ws) ≡ visits_at n i vs ++ visits_at n i ws
          → cond b (v ∷ visits_at n i (vs ++ ws)) (visits_at n i (vs ++ ws))
          ≡ cond b (v ∷ visits_at n i vs) (visits_at n i vs) ++ visits_at n i ws
      go true e = ap (λ (l : List FileVisit). v ∷ l) e
      go false e = e

  -- none in another record, and none outside the range of indexes
  visits_at-other : (m : ℕ) (r : Record) (s k : ℕ) → (m ≡ n → ⊥) → visits_at n i (record_visits m r s k) ≡ []
  unfolding visits_at range
  visits_at-other m r s zero ne = refl
  visits_at-other m r s (suc k) ne = simp (ne_eqb m n ne) (visits_at-other m r (suc s) k ne)

  visits_at-none : (r : Record) (s k : ℕ) → (i < s) ⊎ (s + k ≤ i) → visits_at n i (record_visits n r s k) ≡ []
  unfolding visits_at range
  visits_at-none r s zero out = refl
  visits_at-none r s (suc k) out =
      simp (eq-eqb n n refl, ne_eqb s i (apart out)) (visits_at-none r (suc s) k (further_out out))
    where
      apart : (i < s) ⊎ (s + suc k ≤ i) → s ≡ i → ⊥
      apart (inl h) e = omega arith
      apart (inr h) e = omega arith

      further_out : (i < s) ⊎ (s + suc k ≤ i) → (i < suc s) ⊎ (suc s + k ≤ i)
      further_out (inl h) = inl (omega arith)
      further_out (inr h) = inr (omega arith)

  -- one within it
  visits_at-one : (r : Record) (s k : ℕ) → s ≤ i → i < s + k → visits_at n i (record_visits n r s k) ≡ file_visit n r i ∷ []
  unfolding visits_at range
  visits_at-one r s zero low high = absurd (omega arith)
  visits_at-one r s (suc k) low high = go (eqb s i) refl (visits_at-one r (suc s) k)
    where
      go : (b : Bool) → eqb s i ≡ b → (suc s ≤ i → i < suc s + k → visits_at n i (record_visits n r (suc s) k) ≡ file_visit n r i ∷ [])
          → visits_at n i (record_visits n r s (suc k)) ≡ file_visit n r i ∷ []
      go true e more =
          let same : s ≡ i = eqb-true s i e in
          simp (eq-eqb n n refl, e)
          (ap (λ (l : List FileVisit). file_visit n r s ∷ l) (visits_at-none r (suc s) k (inl (omega arith)))
          ∙ ap (λ (j : ℕ). file_visit n r j ∷ []) same)
      go false e more =
          let apart = eqb-false s i e in
          simp (eq-eqb n n refl, e) (more (omega (arith, apart)) (omega arith))

-- ---- the visits of an accepted chain

also-itself : (k n : ℕ) (v : ℕ → Bool) → k ≡ n → also k v n ≡ true
also-itself k n v e = simp (eq-eqb n k (sym e))

module _ (tests : Record → List Test) (file : List ℕ) (n i : ℕ) where
  -- the visit where it is one of the file's, and else none
  abbrev wanted : Bool → List FileVisit
  wanted on = cond (on && ltb i (planned file n).count) (file_visit n (planned file n) i ∷ []) []

  abbrev Once : ℕ → ℕ → Type 0
  Once links k = visits_at n i (visits_of file (numbers file links k)) ≡ wanted (member n (numbers file links k))

  -- those of record n itself
  own_visits : visits_at n i (record_visits n (planned file n) 0 (planned file n).count) ≡ wanted true
  own_visits = go (ltb i (planned file n).count) refl
    where
      go : (b : Bool) → ltb i (planned file n).count ≡ b
          → visits_at n i (record_visits n (planned file n) 0 (planned file n).count) ≡ cond b (file_visit n (planned file n) i ∷ []) []
      go true e =
          let h = ltb-true i (planned file n).count e in
          visits_at-one n i (planned file n) 0 (planned file n).count (omega arith) (omega (arith, h))
      go false e =
          let h = ltb-false i (planned file n).count e in
          visits_at-none n i (planned file n) 0 (planned file n).count (inr (omega (arith, h)))

  none-once : visits_at n i (visits_of file []) ≡ wanted (member n [])
  unfolding visits_of visits_at member
  none-once = refl

  -- one record more, which the others do not repeat
  cons_once : (k : ℕ) (others : List ℕ) → visits_at n i (visits_of file others) ≡ wanted (member n others)
      → (k ≡ n → member n others ≡ false) → visits_at n i (visits_of file (k ∷ others)) ≡ wanted (member n (k ∷ others))
  unfolding visits_of member
  cons_once k others after fresh =
      visits_at-append n i (record_visits k (planned file k) 0 (planned file k).count) (visits_of file others) ∙ go (eqb k n) refl
    where
      go : (b : Bool) → eqb k n ≡ b
          → visits_at n i (record_visits k (planned file k) 0 (planned file k).count) ++ visits_at n i (visits_of file others)
          ≡ wanted (b || member n others)
      go true e =
          let same = eqb-true k n e in
          ap₂ (λ (vs ws : List FileVisit). vs ++ ws)
          (ap (λ (j : ℕ). visits_at n i (record_visits j (planned file j) 0 (planned file j).count)) same ∙ own_visits)
          (after ∙ ap wanted (fresh same))
          ∙ append-nil (wanted true)
      go false e =
          ap (λ (vs : List FileVisit). vs ++ visits_at n i (visits_of file others))
          (visits_at-other n i k (planned file k) 0 (planned file k).count (eqb-false k n e)) ∙ after

  chain_once : (links : ℕ) (v : ℕ → Bool) (k : ℕ) → chain_outcome tests file links v k ≡ accepted tt → Once links k
  unfolding numbers
  chain_once zero v k h = absurd (chain_some tests file v k h)
  chain_once (suc links) v k h = go (linked tests file links v k h) (chain_once links)
    where
      go : (k ≡ 0) ⊎ Linked tests file links v k → ((v : ℕ → Bool) (k : ℕ) → chain_outcome tests file links v k ≡ accepted tt → Once links k)
          → Once (suc links) k
      go (inl e) more = simp (eq-eqb k 0 e) none-once
      go (inr l) more =
          let next = (record_at file k).next in
          simp (ne_eqb k 0 l.some)
          (cons_once k (numbers file links next) (more (also k v) next l.rest)
          (λ e. member-visited tests file n links (also k v) next l.rest (also-itself k n v e)))

pub once : (further : Record → List Test) (file : List ℕ) → judge_outcome further file ≡ accepted tt
    → (n i : ℕ) → visits_at n i (file_visits file)
    ≡ cond (on_chain file n && ltb i (record_at file n).count) (file_visit n (planned file n) i ∷ []) []
unfolding file_visits
once further file e n i = chain_once (loader_tests further file) file n i most_records nowhere (first_record file) (judged_chain further file e)

-- ---- one visit

-- a visit is among those that have its own record number and index, and these are among all
among_own : (v : FileVisit) (vs : List FileVisit) → Among v vs → Among v (visits_at v.number v.index vs)
unfolding visits_at
among_own v [] x = elim x [ ]
among_own v (w ∷ ws) (inl e) =
    let number : w.number ≡ v.number = ap (λ (u : FileVisit). u.number) (sym e) in
    let index : w.index ≡ v.index = ap (λ (u : FileVisit). u.index) (sym e) in
    simp (eq-eqb w.number v.number number, eq-eqb w.index v.index index) (first_of e)
  where
    first_of : v ≡ w → (v ≡ w) ⊎ Among v (visits_at v.number v.index ws)
    first_of e = inl e
among_own v (w ∷ ws) (inr m) = go (eqb w.number v.number && eqb w.index v.index) (among_own v ws m)
  where
    go : (b : Bool) → Among v (visits_at v.number v.index ws)
        → Among v (cond b (w ∷ visits_at v.number v.index ws) (visits_at v.number v.index ws))
    go true m = inr m
    go false m = m

among_all : (n i : ℕ) (v : FileVisit) (vs : List FileVisit) → Among v (visits_at n i vs) → Among v vs
unfolding visits_at
among_all n i v [] m = m
among_all n i v (w ∷ ws) m = go (eqb w.number n && eqb w.index i) (among_all n i v ws) m
  where
    go : (b : Bool) → (Among v (visits_at n i ws) → Among v ws) → Among v (cond b (w ∷ visits_at n i ws) (visits_at n i ws))
        → (v ≡ w) ⊎ Among v ws
    go true more (inl e) = inl e
    go true more (inr m) = inr (more m)
    go false more m = inr (more m)

module _ (further : Record → List Test) (file : List ℕ) (e : judge_outcome further file ≡ accepted tt) (v : FileVisit) where
  abbrev owned : Record
  owned = planned file v.number

  abbrev itself : FileVisit
  itself = file_visit v.number owned v.index

  -- the visits with its record number and index
  the_one : visits_at v.number v.index (file_visits file) ≡ cond (on_chain file v.number && ltb v.index owned.count) (itself ∷ []) []
  the_one = once further file e v.number v.index

  is_visit : Among v (file_visits file) → VisitOf file v
  unfolding position_of
  is_visit m = go (on_chain file v.number && ltb v.index owned.count) refl (subst (Among v) the_one (among_own v (file_visits file) m))
    where
      go : (b : Bool) → (on_chain file v.number && ltb v.index owned.count) ≡ b → Among v (cond b (itself ∷ []) []) → VisitOf file v
      go true t (inl same) =
          let p = both_hold (on_chain file v.number) (ltb v.index owned.count) t in
          let f = reader_field file in
          let r = record_at file v.number in
          let h = judged_chain further file e in
          let passes = member-passes (loader_tests further file) file v.number most_records nowhere (first_record file) h p.0 in
          let own = sound further f r passes in
          record {
            chained = p.0;
            counted = ltb-true v.index owned.count p.1;
            placed = pass_both (accepted (position_of owned v.index)) f r.region own.inside own.taken
                ∙ ap (λ (u : FileVisit). accepted (record { x = u.x; y = u.y })) (sym same);
          }
      go true t (inr m) = absurd m
      go false t m = absurd m

  visit_is : VisitOf file v → Among v (file_visits file)
  unfolding position_of
  visit_is o =
      let t : (on_chain file v.number && ltb v.index owned.count) ≡ true =
      ap₂ (λ (a b : Bool). a && b) o.chained (lt-ltb v.index owned.count o.counted) in
      let lies = accepted-same
      (both_pass (accepted (position_of owned v.index)) (reader_field file) (record_at file v.number).region o.placed).2 in
      let same : v ≡ itself = ap (λ (p : Position). record { number = v.number; index = v.index; x = p.x; y = p.y }) (sym lies) in
      among_all v.number v.index v (file_visits file)
      (subst (Among v) (sym (the_one ∙ ap (λ (b : Bool). cond b (itself ∷ []) []) t)) (inl same))

pub visit_iff : (further : Record → List Test) (file : List ℕ) → judge_outcome further file ≡ accepted tt
    → (v : FileVisit) → Among v (file_visits file) ↔ VisitOf file v
visit_iff further file e v = (is_visit further file e v, visit_is further file e v)
