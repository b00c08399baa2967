-- Every chain ends within as many links as a file can have records: each link that passes takes a record that was free.
-- Assumes nothing.
use mathlib.Core.Path.{◌≡◌, refl, sym, ap, ◌∙◌}
use mathlib.Core.Bool.{Bool, true, false, cond}
use mathlib.Core.List.{List}
use Prim.Native.Nat.{ℕ, zero, suc, ◌≤◌, ◌<◌}
use native.Mathlib.Omega.{arith}
use borrow.Author.Tests.{eqb-false}
use lib.Dec.{eqb}
use lib.ListN.{length, get_or, set, replicate, length-set, length-replicate}
use lib.Seq.{get_or-set_other}
use Rattle.refusal.specs.Outcome.{Outcome, accepted, refused, Test, first}
use Rattle.refusal.proofs.First.{refused_before, passed_before}
use Rattle.region_file.specs.declared.records.Record.{Record}
use Rattle.region_file.specs.Records.{record_at, record_count, most_records}
use Rattle.region_file.specs.Judge.{also, link_tests, chain_outcome}
use Rattle.region_file.specs.Theorem.{ChainsEnd}
use Rattle.region_file.proofs.Chain.{Passed, passed, whole_few}
use Rattle.region_file.proofs.Marks.{marked, free, free_fresh, fresh_at, marked_fresh, free-set, free-some, marked-set}

module _ (tests : Record → List Test) (file : List ℕ) (few : record_count file ≤ most_records) where
  -- one link of each, where the rest is the same
  step : (f g : ℕ) (v : ℕ → Bool) (n : ℕ)
      → ((n ≡ 0 → ⊥) → Passed tests file (v n) n → chain_outcome tests file f (also n v) (record_at file n).next
      ≡ chain_outcome tests file g (also n v)
      (record_at file n).next)
      → chain_outcome tests file (suc f) v n ≡ chain_outcome tests file (suc g) v n
  unfolding chain_outcome
  step f g v n same = go (eqb n 0) refl
    where
      one : ℕ → Outcome Unit
      one links = chain_outcome tests file links (also n v) (record_at file n).next

      own : List Test
      own = link_tests tests file (v n) n

      judged : (o : Outcome Unit) → first own (accepted tt) ≡ o → (n ≡ 0 → ⊥) → first own (one f) ≡ first own (one g)
      judged (accepted t) e ne =
          passed_before tt (one f) own e ∙ same ne (passed tests file (v n) n e).0 ∙ sym (passed_before tt (one g) own e)
      judged (refused k vs) e ne = refused_before tt (one f) own e ∙ sym (refused_before tt (one g) own e)

      go : (z : Bool) → eqb n 0 ≡ z → cond z (accepted tt) (first own (one f)) ≡ cond z (accepted tt) (first own (one g))
      go true e = refl
      go false e = judged (first own (accepted tt)) refl (eqb-false n 0 e)

  same : (f g : ℕ) (ms : List Bool) (n : ℕ) → length ms ≡ most_records → get_or ms 0 false ≡ false → free ms ≤ f → free ms ≤ g
      → chain_outcome tests file f (marked ms) n ≡ chain_outcome tests file g (marked ms) n
  same zero g ms n l z hf hg = absurd (omega (arith, free-some ms l z))
  same (suc f) zero ms n l z hf hg = absurd (omega (arith, free-some ms l z))
  same (suc f) (suc g) ms n l z hf hg =
      step f g (marked ms) n (λ ne p.
      let here = p.here in
      let k : n < length ms = omega (arith, here) in
      let o : free ms ≡ suc (free (set ms n true)) = free-set ms n k p.fresh in
      let next : ℕ = (record_at file n).next in
      ap (λ (v : ℕ → Bool). chain_outcome tests file f v next) (sym (marked-set ms n k))
      ∙ same f g (set ms n true) next (length-set ms n true ∙ l) (get_or-set_other ms n 0 true false (λ q. ne (sym q)) ∙ z) (omega arith)
      (omega arith)
      ∙ ap (λ (v : ℕ → Bool). chain_outcome tests file g v next) (marked-set ms n k))

pub chains_end : ChainsEnd
chains_end tests file links n w h =
    let ms : List Bool = replicate most_records false in
    let e : free ms ≡ most_records = free_fresh most_records in
    ap (λ (v : ℕ → Bool). chain_outcome tests file links v n) (sym (marked_fresh most_records))
    ∙ same tests file (whole_few (length file) w) links most_records ms n (length-replicate {A = Bool} most_records false) (fresh_at most_records 0)
    (omega arith) (omega arith)
    ∙ ap (λ (v : ℕ → Bool). chain_outcome tests file most_records v n) (marked_fresh most_records)
