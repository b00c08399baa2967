-- What a step within a record gives: the first visit to come, or the end where none is to come.
-- Assumes nothing.
use Rattle.std.specs.Prelude.{Option, Some, None}
use mathlib.Core.Path.{◌≡◌, refl, sym, ◌∙◌, subst}
use mathlib.Core.Bool.{Bool, true, false, true≢false}
use mathlib.Core.List.{List, []}
use mathlib.Core.Logic.{◌⊎◌, inl, inr}
use Prim.Native.Nat.{ℕ, ◌<◌}
use borrow.Author.Tests.{lt-leb, leb-false}
use lib.Dec.{leb}
use Rattle.stage.specs.Region.{within}
use Rattle.visits.specs.declared.file_walks.FileVisit.{FileVisit}
use Rattle.visits.specs.declared.file_walks.FileWalk.{FileWalk}
use Rattle.visits.specs.Visits.{file_visit}
use Rattle.visits.specs.FileWalk.{visits_to_come, Gives}
use Rattle.visits.specs.Stepping.{after_visit, step_in_record}
use Rattle.visits.proofs.Coming.{to_come-outside, to_come-first}

-- the step that gives v from the walk p
abbrev pub stepped : FileWalk → FileVisit → Option FileVisit × FileWalk
stepped p v = (Some v, after_visit p)

pub step_in_record-visit : (p : FileWalk) → p.index < p.planned.count → within p.planned.region ≡ true
    → step_in_record p ≡ stepped p (file_visit p.number p.planned p.index)
unfolding step_in_record
step_in_record-visit p h e = simp (lt-leb _ _ h, e)

-- the step from a walk that has a visit at its index, or from which none is to come
pub gives_in_record : (file : List ℕ) (p : FileWalk) → (p.index < p.planned.count) ⊎ (visits_to_come file p ≡ [])
    → Gives file p (step_in_record p).0 (step_in_record p).1
unfolding step_in_record
gives_in_record file p ready = go (leb p.planned.count p.index) refl (within p.planned.region) refl ready
  where
    ended : visits_to_come file p ≡ [] → (visits_to_come file p ≡ []) × (visits_to_come file p ≡ [])
    ended e = (e, e)

    go : (a : Bool) → leb p.planned.count p.index ≡ a → (b : Bool) → within p.planned.region ≡ b → (p.index < p.planned.count) ⊎
        (visits_to_come file p ≡ [])
        → Gives file p (step_in_record p).0 (step_in_record p).1
    go false ea true eb ready = simp (ea, eb) (to_come-first file p eb (leb-false _ _ ea))
    go false ea false eb ready = simp (ea, eb) (ended (to_come-outside file p eb))
    go true ea b eb (inl h) = absurd (true≢false (sym ea ∙ lt-leb _ _ h))
    go true ea b eb (inr e) = simp ea (ended e)

-- from q, which has a visit at its index unless none is to come, the same visits are to come as from p
pub record Ready (file : List ℕ) (p q : FileWalk) : Type 0 where
  pub same : visits_to_come file p ≡ visits_to_come file q
  pub here : (q.index < q.planned.count) ⊎ (visits_to_come file q ≡ [])

-- then a step within the record of q is a step from p
pub gives_from : (file : List ℕ) (p q r : FileWalk) (o : Option FileVisit) → Ready file p q → (o, r) ≡ step_in_record q → Gives file p o r
gives_from file p q r o ready is =
    let from : Option FileVisit × FileWalk → Type 0 = λ s. Gives file q s.0 s.1 in
    go o (subst from (sym is) (gives_in_record file q ready.here))
  where
    go : (o : Option FileVisit) → Gives file q o r → Gives file p o r
    go (Some v) g = ready.same ∙ g
    go None g = (ready.same ∙ g.0, g.1)
