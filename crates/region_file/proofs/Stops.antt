-- Where a judgement stops: from a link on, the first that ends the chain or is refused. Each link that passes takes a record that was free, so
-- that the links do not run out before.
-- Assumes nothing.
use mathlib.Core.Path.{◌≡◌, refl, sym, ap, ◌∙◌}
use mathlib.Core.Bool.{Bool, true, false}
use mathlib.Core.List.{List}
use mathlib.Core.Logic.{◌⊎◌, inl, inr}
use Prim.Native.Nat.{ℕ, zero, suc, ◌≤◌, ◌<◌}
use native.Mathlib.Nat.{not-suc-le-zero}
use native.Mathlib.Omega.{arith}
use borrow.Author.Tests.{eq-eqb, ne_eqb, not-false}
use lib.ListN.{length, get_or, set, replicate, length-set, length-replicate}
use lib.Seq.{get_or-set_other}
use Rattle.ranges.proofs.Order.{eq_or_ne}
use Rattle.refusal.specs.Outcome.{Outcome, accepted, refused, Test}
use Rattle.refusal.proofs.First.{accepted-refused, AllPass, all_pass}
use Rattle.region_file.specs.declared.records.Record.{Record}
use Rattle.region_file.specs.Records.{record_count, most_records}
use Rattle.region_file.specs.Chain.{link_at}
use Rattle.region_file.specs.Judge.{head_tests, loader_tests, head_outcome, link_outcome, also, chain_outcome, chain_stop}
use Rattle.region_file.specs.Theorem.{named_before, outcome_at, StopsAt, Stops}
use Rattle.region_file.proofs.Chain.{passed, chain_end, chain_refused, chain_next, whole_few}
use Rattle.region_file.proofs.Marks.{marked, free, free_fresh, fresh_at, marked_fresh, free-set, free-some, marked-set}
use Rattle.region_file.proofs.Stop.{stop-end, stop-refused, stop-next, head-refused, head_passed}

module _ (tests : Record → List Test) (file : List ℕ) where
  abbrev named : ℕ → ℕ
  named k = (link_at file k).named

  abbrev tested : ℕ → Outcome Unit
  tested k = link_outcome tests file (named_before file k (named k)) (named k)

  -- link i names a record, and that one passes
  abbrev Passes : ℕ → Type 0
  Passes i = (named i ≡ 0 → ⊥) × (outcome_at tests file i ≡ accepted tt)

  -- the judgement from link j on stops at link k
  record StopsFrom (links j k : ℕ) : Type 0 where
    pub stop : chain_stop tests file links (named_before file j) (link_at file j) ≡ link_at file k
    pub decides : chain_outcome tests file links (named_before file j) (named j) ≡ outcome_at tests file k
    pub ends : outcome_at tests file k ≡ accepted tt → named k ≡ 0
    pub earlier : (i : ℕ) → i < k → Passes i

  at-end : (j : ℕ) → named j ≡ 0 → outcome_at tests file j ≡ accepted tt
  at-end j e = simp (eq-eqb (named j) 0 e)

  at_record : (j : ℕ) → (named j ≡ 0 → ⊥) → outcome_at tests file j ≡ tested j
  at_record j ne = simp (ne_eqb (named j) 0 ne)

  one_more : (j : ℕ) → ((i : ℕ) → i < j → Passes i) → Passes j → (i : ℕ) → i < suc j → Passes i
  one_more j earlier here i h = go (eq_or_ne i j)
    where
      go : (i ≡ j) ⊎ (i ≡ j → ⊥) → Passes i
      go (inl e) = rw e here
      go (inr ne) = earlier i (omega (arith, ne))

  -- with so many links, where no more records are free and every link before passes
  abbrev Found : ℕ → Type 0
  Found links = (j : ℕ) (ms : List Bool) → length ms ≡ most_records → get_or ms 0 false ≡ false → free ms ≤ links → marked ms ≡ named_before file j
      → ((i : ℕ) → i < j → Passes i) → (k : ℕ) × StopsFrom links j k

  module _ (few : record_count file ≤ most_records) where
    from : (links : ℕ) → Found links
    unfolding link_at named_before
    from zero j ms l z f m earlier = absurd (omega (arith, free-some ms l z))
    from (suc links) j ms l z f m earlier = go (eq_or_ne (named j) 0) (tested j) refl (from links)
      where
        goes_on : (named j ≡ 0 → ⊥) → tested j ≡ accepted tt
            → Found links
            → (k : ℕ) × StopsFrom (suc links) j k
        goes_on ne e more =
            let p = (passed tests file (named_before file j (named j)) (named j) e).0 in
            let o = p.here in
            let k : named j < length ms = omega (arith, o) in
            let clear = ap (λ (v : ℕ → Bool). v (named j)) m ∙ p.fresh in
            let taken : free ms ≡ suc (free (set ms (named j) true)) = free-set ms (named j) k clear in
            let r = more (suc j) (set ms (named j) true) (length-set ms (named j) true ∙ l)
            (get_or-set_other ms (named j) 0 true false (λ q. ne (sym q)) ∙ z) (omega arith)
            (marked-set ms (named j) k ∙ ap (also (named j)) m)
            (one_more j earlier (ne, at_record j ne ∙ e)) in
            let s = r.1 in (
              r.0,
              record {
                stop = stop-next tests file (named_before file j) (link_at file j) links ne e ∙ s.stop;
                decides = chain_next tests file (named_before file j) (named j) ne links e ∙ s.decides;
                ends = s.ends;
                earlier = s.earlier;
              },
            )

        go : (named j ≡ 0) ⊎ (named j ≡ 0 → ⊥) → (o : Outcome Unit) → tested j ≡ o
            → Found links
            → (k : ℕ) × StopsFrom (suc links) j k
        go (inl e) o q more = (
          j,
          record {
            stop = stop-end tests file (named_before file j) (link_at file j) (suc links) e;
            decides = chain_end tests file (suc links) (omega arith) (named_before file j) (named j) e ∙ sym (at-end j e);
            ends = λ h. e;
            earlier = earlier;
          },
        )
        go (inr ne) (accepted t) q more = goes_on ne q more
        go (inr ne) (refused n vs) q more = (
          j,
          record {
            stop = stop-refused tests file (named_before file j) (link_at file j) (suc links) ne q;
            decides = chain_refused tests file (named_before file j) (named j) ne (suc links) (omega arith) q ∙ sym (at_record j ne ∙ q);
            ends = λ h. absurd (accepted-refused (sym h ∙ at_record j ne ∙ q));
            earlier = earlier;
          },
        )

stops_at : (further : Record → List Test) (file : List ℕ) → head_outcome file ≡ accepted tt → (k : ℕ) × StopsAt further file k
unfolding link_at named_before
stops_at further file h =
    let heads : AllPass (head_tests file) = (all_pass (accepted tt) (head_tests file) h).0 in
    let few = whole_few (length file) (not-false _ heads.0) in
    let ms : List Bool = replicate most_records false in
    let fresh : free ms ≡ most_records = free_fresh most_records in
    let r = from (loader_tests further file) file few most_records 0 ms (length-replicate {A = Bool} most_records false)
    (fresh_at most_records 0) (omega arith) (marked_fresh most_records) (λ i less. absurd (not-suc-le-zero less)) in
    let s = r.1 in
    let judged = head_passed further file h in
    (r.0, record { stop = judged.1 ∙ s.stop; decides = judged.0 ∙ s.decides; ends = s.ends; earlier = s.earlier })

pub stops : (further : Record → List Test) (file : List ℕ) → Stops further file
stops further file = record { at_link = stops_at further file; at_none = λ n vs e. (head-refused further file e).1 }
