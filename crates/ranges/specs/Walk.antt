-- A walk over visits: one step, and what n steps give, for any visits and any last index.
use Rattle.std.specs.Prelude.{true, false, List, [], ◌∷◌, ◌++◌, map, ℕ, zero, suc, ◌+◌, ◌-◌, min, eqb, ltb, replicate}
use Rattle.ranges.specs.Range.{range}

-- a walk (01's word; a cursor over visits) holds the next index and the number of visits left
pub record Walk : Type 0 where
  pub next : ℕ
  pub left : ℕ

-- a step gives a visit or the end
pub data Answer (A : Type 0) : Type 0 where
  visited : A → Answer A
  ended : Answer A

-- and hands back the walk after it
pub record Stepped (A : Type 0) : Type 0 where
  pub answer : Answer A
  pub walk : Walk

-- With none left a step has ended and changes nothing; also past the last index, which indexes of 32 bits cannot be (C-19, C-23). At the
-- last index it gives that visit and leaves none left and the index unmoved. Else it gives the next visit, adds one to the index and
-- takes one from the visits left.
unfoldable pub step : {A : Type 0} → (ℕ → A) → ℕ → Walk → Stepped A
step visit-of last w =
    elim (eqb w.left 0) [
      | true ↦ record { answer = ended; walk = w }
      | false ↦ elim (ltb last w.next) [
        | true ↦ record { answer = ended; walk = w }
        | false ↦ elim (eqb w.next last) [
          | true ↦ record { answer = visited (visit-of w.next); walk = record { next = w.next; left = 0 } }
          | false ↦ record { answer = visited (visit-of w.next); walk = record { next = w.next + 1; left = w.left - 1 } }
        ]
      ]
    ]

-- the answers of n steps, each on the walk that the one before it handed back; and the walk after them
unfoldable pub answers : {A : Type 0} → (ℕ → A) → ℕ → ℕ → Walk → List (Answer A)
answers visit-of last zero w = []
answers visit-of last (suc n) w = (step visit-of last w).answer ∷ answers visit-of last n (step visit-of last w).walk

unfoldable pub after : {A : Type 0} → (ℕ → A) → ℕ → ℕ → Walk → Walk
after visit-of last zero w = w
after visit-of last (suc n) w = after visit-of last n (step visit-of last w).walk

-- the visits of c indexes from s on, as far as n steps go, and then the end
abbrev pub visits_then_end : {A : Type 0} → (ℕ → A) → ℕ → ℕ → ℕ → List (Answer A)
visits_then_end visit-of n s c = map (λ i. visited (visit-of i)) (range s (min n c)) ++ replicate (n - c) ended

-- the visits that a list of answers gives
unfoldable pub visits_given : {A : Type 0} → List (Answer A) → List A
visits_given [] = []
visits_given (visited v ∷ l) = v ∷ visits_given l
visits_given (ended ∷ l) = visits_given l
