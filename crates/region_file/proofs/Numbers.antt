-- The laws of the chain's numbers: `member`, one law for each case of the code; and of an accepted chain, that it names no record twice,
-- that its records pass their tests, and that it has no more numbers than links were followed.
-- Assumes nothing.
use mathlib.Core.Path.{◌≡◌, refl, sym, ap, ◌∙◌, subst}
use mathlib.Core.Bool.{Bool, true, false, ◌||◌, true≢false, or-true}
use mathlib.Core.List.{List}
use mathlib.Core.Logic.{◌⊎◌, inl, inr, ◌≢◌}
use Prim.Native.Nat.{ℕ, zero, suc, ◌+◌, ◌-◌, ◌≤◌, ◌<◌}
use native.Mathlib.Nat.{lt_irrefl}
use native.Mathlib.Omega.{arith}
use borrow.Author.Tests.{eq-eqb, ne_eqb}
use lib.Dec.{eqb}
use Rattle.ranges.proofs.Order.{eq_or_ne}
use Rattle.refusal.specs.Outcome.{accepted, Test}
use Rattle.refusal.proofs.First.{AllPass}
use Rattle.region_file.specs.declared.records.Record.{Record}
use Rattle.region_file.specs.Records.{record_at, first_record, most_records}
use Rattle.region_file.specs.Chain.{numbers, member}
use Rattle.region_file.specs.Judge.{loader_tests, nowhere, also, chain_outcome}
use Rattle.region_file.specs.Theorem.{WholeChain}
use Rattle.region_file.proofs.Chain.{Linked, linked, chain_some, judged_chain}

module _ (file : List ℕ) (k : ℕ) where
  pub member-none : (links n : ℕ) → links ≤ 0 → member k (numbers file links n) ≡ false
  unfolding numbers member
  member-none zero n h = refl
  member-none (suc links) n h = absurd (omega arith)

  pub member-end : (links n : ℕ) → n ≡ 0 → member k (numbers file links n) ≡ false
  unfolding numbers member
  member-end zero n e = refl
  member-end (suc links) n e = simp (eq-eqb n 0 e)

  pub member-first : (links n : ℕ) → (n ≡ 0 → ⊥) → n ≡ k → member k (numbers file (suc links) n) ≡ true
  unfolding numbers member
  member-first links n ne e = simp (ne_eqb n 0 ne, eq-eqb n k e)

  member-rest : (links n : ℕ) → (n ≡ 0 → ⊥) → (n ≡ k → ⊥)
      → member k (numbers file (suc links) n) ≡ member k (numbers file links (record_at file n).next)
  unfolding numbers member
  member-rest links n ne e = simp (ne_eqb n 0 ne, ne_eqb n k e)

  pub member-later : (links n : ℕ) → (n ≡ 0 → ⊥) → member k (numbers file links (record_at file n).next) ≡ true
      → member k (numbers file (suc links) n) ≡ true
  unfolding numbers member
  member-later links n ne m = simp (ne_eqb n 0 ne) (ap (λ (b : Bool). eqb n k || b) m ∙ or-true (eqb n k))

  -- the same for a number of links that is not 0, as the code counts them
  module _ (links n : ℕ) (some : 0 < links) (ne : n ≡ 0 → ⊥) where
    pub member_here : n ≡ k → member k (numbers file links n) ≡ true
    member_here e = go links some
      where
        go : (links : ℕ) → 0 < links → member k (numbers file links n) ≡ true
        go zero h = absurd (lt_irrefl 0 h)
        go (suc l) h = member-first l n ne e

    pub member-next : (n ≡ k → ⊥) → member k (numbers file links n) ≡ member k (numbers file (links - 1) (record_at file n).next)
    member-next e = go links some
      where
        go : (links : ℕ) → 0 < links → member k (numbers file links n) ≡ member k (numbers file (links - 1) (record_at file n).next)
        go zero h = absurd (lt_irrefl 0 h)
        go (suc l) h =
            let less : l ≡ suc l - 1 = omega arith in
            member-rest l n ne e ∙ ap (λ (m : ℕ). member k (numbers file m (record_at file n).next)) less

-- ---- an accepted chain

module _ (tests : Record → List Test) (file : List ℕ) (k : ℕ) where
  -- none of its numbers is that of a record which an earlier link named
  pub member-visited : (links : ℕ) (v : ℕ → Bool) (n : ℕ) → chain_outcome tests file links v n ≡ accepted tt → v k ≡ true
      → member k (numbers file links n) ≡ false
  member-visited zero v n h seen = absurd (chain_some tests file v n h)
  member-visited (suc links) v n h seen = go (linked tests file links v n h) (member-visited links)
    where
      go : (n ≡ 0) ⊎ Linked tests file links v n
          → ((v : ℕ → Bool) (n : ℕ) → chain_outcome tests file links v n ≡ accepted tt → v k ≡ true → member k (numbers file links n) ≡ false)
          → member k (numbers file (suc links) n) ≡ false
      go (inl e) more = member-end file k (suc links) n e
      go (inr l) more =
          let other : n ≡ k → ⊥ = λ e. true≢false (sym seen ∙ ap v (sym e) ∙ l.link.fresh) in
          let still : also n v k ≡ true = ap (λ (b : Bool). eqb k n || b) seen ∙ or-true (eqb k n) in
          member-rest file k links n l.some other ∙ more (also n v) (record_at file n).next l.rest still

  -- each of its numbers names a record that passes its tests
  pub member-passes : (links : ℕ) (v : ℕ → Bool) (n : ℕ) → chain_outcome tests file links v n ≡ accepted tt
      → member k (numbers file links n) ≡ true → AllPass (tests (record_at file k))
  member-passes zero v n h m = absurd (chain_some tests file v n h)
  member-passes (suc links) v n h m = go (linked tests file links v n h) (eq_or_ne n k) (member-passes links)
    where
      go : (n ≡ 0) ⊎ Linked tests file links v n → (n ≡ k) ⊎ (n ≢ k)
          → ((v : ℕ → Bool) (n : ℕ) → chain_outcome tests file links v n ≡ accepted tt → member k (numbers file links n) ≡ true
          → AllPass (tests (record_at file k)))
          → AllPass (tests (record_at file k))
      go (inl e) is more = absurd (true≢false (sym m ∙ member-end file k (suc links) n e))
      go (inr l) (inl e) more = subst (λ (j : ℕ). AllPass (tests (record_at file j))) e l.link.own
      go (inr l) (inr e) more =
          more (also n v) (record_at file n).next l.rest (sym (member-rest file k links n l.some e) ∙ m)

-- looking at more links finds no more records
numbers-enough : (tests : Record → List Test) (file : List ℕ) (links more : ℕ) (v : ℕ → Bool) (n : ℕ)
    → chain_outcome tests file links v n ≡ accepted tt → numbers file (links + more) n ≡ numbers file links n
unfolding numbers
numbers-enough tests file zero more v n h = absurd (chain_some tests file v n h)
numbers-enough tests file (suc links) more v n h =
    let e : suc links + more ≡ suc (links + more) = omega arith in
    ap (λ (k : ℕ). numbers file k n) e ∙ go (linked tests file links v n h) (λ v n h. numbers-enough tests file links more v n h)
  where
    go : (n ≡ 0) ⊎ Linked tests file links v n
        → ((v : ℕ → Bool) (n : ℕ) → chain_outcome tests file links v n ≡ accepted tt → numbers file (links + more) n ≡ numbers file links n)
        → numbers file (suc (links + more)) n ≡ numbers file (suc links) n
    go (inl e) rest = simp (eq-eqb n 0 e)
    go (inr l) rest = simp (ne_eqb n 0 l.some, rest _ _ l.rest)

pub whole_chain : WholeChain
whole_chain further file links e h =
    let k : links ≡ most_records + (links - most_records) = omega arith in
    ap (λ (m : ℕ). numbers file m (first_record file)) k
    ∙ numbers-enough (loader_tests further file) file most_records (links - most_records) nowhere (first_record file) (judged_chain further file e)
