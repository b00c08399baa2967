-- An overview by its single queries, one by one. Assumes nothing.
use mathlib.Core.Path.{◌≡◌, refl, sym, ap, ap₂, ◌∙◌}
use mathlib.Core.Bool.{Bool, false, not, ◌||◌}
use mathlib.Core.List.{List, [], ◌∷◌}
use Prim.Native.Nat.{ℕ, zero, suc, ◌<◌}
use native.Mathlib.Omega.{arith}
use borrow.Author.Tests.{eq-eqb}
use lib.ListN.{length, get_or}
use Rattle.refusal.specs.Outcome.{Outcome, accepted, refused, then}
use Rattle.refusal.proofs.First.{first-none, first_passes, accepted-refused, accepted-same}
use Rattle.plan.specs.declared.pair.Plan.{Plan}
use Rattle.plan.specs.declared.points.Scramble.{Scramble}
use Rattle.stratify.specs.Answers.{query_outcome}
use Rattle.stratify.specs.Overview.{buffers_differ, and_others, one_by_one, cells_outcome, overview_outcome}
use Rattle.stratify.specs.Overview.{EachAnswers, EarliestRefused, ByQueries}
use Rattle.stratify.proofs.Ordered.{overview-order, empty-query}

-- a refusal does not depend on what would have been handed out
kept : Outcome (List ℕ) → Outcome ℕ
kept (accepted is) = accepted 0
kept (refused n vs) = refused n vs

module _ (one : ℕ → ℕ → Outcome ℕ) where
  -- ---- from the overview to the queries

  each-answers : (cs rs is : List ℕ) → length cs ≡ length rs → one_by_one one cs rs ≡ accepted is → EachAnswers one cs rs is
  unfolding one_by_one and_others
  each-answers [] rs is e h = let none : is ≡ [] = sym (accepted-same h) in record { as_many = ap length none; each = λ i l. absurd (omega arith) }
  each-answers (c ∷ cs) [] is e h = absurd (omega arith)
  each-answers (c ∷ cs) (r ∷ rs) is e h = go (one c r) refl (one_by_one one cs rs) (λ js. each-answers cs rs js (omega arith)) h
    where
      go : (o : Outcome ℕ) → one c r ≡ o → (q : Outcome (List ℕ)) → ((js : List ℕ) → q ≡ accepted js → EachAnswers one cs rs js)
          → and_others o q ≡ accepted is → EachAnswers one (c ∷ cs) (r ∷ rs) is
      go (accepted j) f (accepted js) more g =
          let rest = more js refl in
          let is-are : j ∷ js ≡ is = accepted-same g in
          rw (sym is-are) (record { as_many = ap suc rest.as_many; each = at f rest })
        where
          at : {js : List ℕ} → one c r ≡ accepted j → EachAnswers one cs rs js → (i : ℕ) → i < length (c ∷ cs)
              → one (get_or (c ∷ cs) i 0) (get_or (r ∷ rs) i 0) ≡ accepted (get_or (j ∷ js) i 0)
          at f rest zero l = f
          at f rest (suc i) l = rest.each i (omega arith)
      go (accepted j) f (refused n vs) more g = absurd (accepted-refused (sym g))
      go (refused n vs) f q more g = absurd (accepted-refused (sym g))

  earliest-refused : (cs rs : List ℕ) (n : ℕ) (vs : List ℕ) → length cs ≡ length rs → one_by_one one cs rs ≡ refused n vs
      → EarliestRefused one cs rs n vs
  unfolding one_by_one and_others kept
  earliest-refused [] rs n vs e h = absurd (accepted-refused h)
  earliest-refused (c ∷ cs) [] n vs e h = absurd (omega arith)
  earliest-refused (c ∷ cs) (r ∷ rs) n vs e h = go (one c r) refl (one_by_one one cs rs) (λ k ws. earliest-refused cs rs k ws (omega arith)) h
    where
      go : (o : Outcome ℕ) → one c r ≡ o → (q : Outcome (List ℕ)) → ((k : ℕ) (ws : List ℕ) → q ≡ refused k ws → EarliestRefused one cs rs k ws)
          → and_others o q ≡ refused n vs → EarliestRefused one (c ∷ cs) (r ∷ rs) n vs
      go (accepted j) f (accepted js) more g = absurd (accepted-refused g)
      go (accepted j) f (refused k ws) more g =
          let rest = more n vs g in
          let low = rest.inside in
          record { place = suc rest.place; inside = omega arith; refuses = rest.refuses; earlier = at rest }
        where
          at : (rest : EarliestRefused one cs rs n vs) → (i : ℕ) → i < suc rest.place
              → (index : ℕ) × (one (get_or (c ∷ cs) i 0) (get_or (r ∷ rs) i 0) ≡ accepted index)
          at rest zero l = (j, f)
          at rest (suc i) l = rest.earlier i (omega arith)
      go (refused k ws) f q more g =
          record { place = 0; inside = omega arith; refuses = f ∙ ap kept g; earlier = λ i l. absurd (omega arith) }

  -- ---- and back

  all_answer : (cs rs is : List ℕ) → length cs ≡ length rs → EachAnswers one cs rs is → one_by_one one cs rs ≡ accepted is
  unfolding one_by_one and_others
  all_answer [] rs [] e all = refl
  all_answer [] rs (i ∷ is) e all = let many = all.as_many in absurd (omega arith)
  all_answer (c ∷ cs) [] is e all = absurd (omega arith)
  all_answer (c ∷ cs) (r ∷ rs) [] e all = let many = all.as_many in absurd (omega arith)
  all_answer (c ∷ cs) (r ∷ rs) (i ∷ is) e all =
      let many = all.as_many in
      ap₂ and_others (all.each 0 (omega arith))
      (all_answer cs rs is (omega arith) (record { as_many = omega arith; each = λ k l. all.each (suc k) (omega arith) }))

  stops : (cs rs : List ℕ) (n : ℕ) (vs : List ℕ) (p : ℕ) → length cs ≡ length rs → p < length cs → one (get_or cs p 0) (get_or rs p 0) ≡ refused n vs
      → ((i : ℕ) → i < p → (index : ℕ) × (one (get_or cs i 0) (get_or rs i 0) ≡ accepted index)) → one_by_one one cs rs ≡ refused n vs
  unfolding one_by_one and_others
  stops [] rs n vs p e l h more = absurd (omega arith)
  stops (c ∷ cs) [] n vs p e l h more = absurd (omega arith)
  stops (c ∷ cs) (r ∷ rs) n vs zero e l h more = ap (λ (o : Outcome ℕ). and_others o (one_by_one one cs rs)) h
  stops (c ∷ cs) (r ∷ rs) n vs (suc p) e l h more =
      ap₂ and_others (more 0 (omega arith)).1 (stops cs rs n vs p (omega arith) (omega arith) h (λ i k. more (suc i) (omega arith)))

pub buffers_match : (cs rs answers : List ℕ) → length cs ≡ length rs → length cs ≡ length answers → (buffers_differ cs rs answers).holds ≡ false
buffers_match cs rs answers e f =
    ap₂ (λ (b d : Bool). not b || not d) (eq-eqb (length cs) (length rs) e) (eq-eqb (length cs) (length answers) f)

module _ (P : Plan) (s : Scramble) (level m a k : ℕ) where
  -- past 8
  pub cells_are : (cs rs answers : List ℕ) → length cs ≡ length rs → length cs ≡ length answers
      → overview_outcome P s level m a k cs rs answers ≡ cells_outcome P s level m a k cs rs
  cells_are cs rs answers e f =
      first_passes (cells_outcome P s level m a k cs rs) 8 [] (buffers_match cs rs answers e f) ∙ first-none (cells_outcome P s level m a k cs rs)

  some : (cs rs : List ℕ) → 0 < length cs → cells_outcome P s level m a k cs rs ≡ one_by_one (query_outcome P s level m a k) cs rs
  some [] rs l = absurd (omega arith)
  some (c ∷ cs) rs l = refl

  pub by_queries : (cs rs answers : List ℕ) → length cs ≡ length rs → length cs ≡ length answers → ByQueries P s level m a k cs rs answers
  by_queries cs rs answers e f = record {
    answered = λ is l.
        let are-asked = cells_are cs rs answers e f ∙ some cs rs l in
        (λ h. each-answers one cs rs is e (sym are-asked ∙ h), λ all. are-asked ∙ all_answer one cs rs is e all);
    earliest = λ n vs l.
        let are-asked = cells_are cs rs answers e f ∙ some cs rs l in (
          λ h. earliest-refused one cs rs n vs e (sym are-asked ∙ h),
          λ r. are-asked ∙ stops one cs rs n vs r.place e r.inside r.refuses r.earlier,
        );
    empty = λ z. cells_are cs rs answers e f ∙ none cs z;
    order = cells_are cs rs answers e f ∙ overview-order P s level m a k cs rs e;
  }
    where
      one : ℕ → ℕ → Outcome ℕ
      one = query_outcome P s level m a k

      none : (cs : List ℕ) → length cs ≡ 0 → cells_outcome P s level m a k cs rs ≡ then (query_outcome P s level m a k 0 0) (accepted [])
      none [] z = empty-query P s level m a k
      none (c ∷ cs) z = absurd (omega arith)
