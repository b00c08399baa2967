-- What opening a file and stepping in it leave in the words that C lends.
use Rattle.std.specs.Prelude.{◌≡◌, List, [], ◌∷◌, ℕ, ℤ}
use Rattle.refusal.specs.Outcome.{Outcome, accepted, refused}
use Rattle.visits.specs.declared.file_walks.FileVisit.{FileVisit}
use Rattle.visits.specs.FileWalk.{visits_to_come}
use Rattle.file_words.specs.Words.{walk_of}

-- the visits to come from the walk that these words stand for
abbrev pub visits_by_words : List ℕ → List ℕ → List FileVisit
visits_by_words file ws = visits_to_come file (walk_of ws)

-- the words after a file is opened: all its visits are to come from them; a refused file leaves them as they were
abbrev pub Opens : List ℕ → Outcome (List FileVisit) → List ℕ → List ℕ → Type 0
Opens file (accepted vs) old new = visits_by_words file new ≡ vs
Opens file (refused n l) old new = new ≡ old

-- the visits to come after a step
abbrev pub all_but_first : List FileVisit → List FileVisit
all_but_first [] = []
all_but_first (v ∷ vs) = vs

-- whether a step has a visit: 1, or 0 at the end
abbrev pub visit_given : List FileVisit → ℕ
visit_given [] = 0
visit_given (v ∷ vs) = 1

-- the words lent to a step for its visit: the number of the record, the index in it, and the position
pub record VisitWords : Type 0 where
  pub number : ℕ
  pub index : ℕ
  pub x : ℤ
  pub y : ℤ

-- those words by their contents
abbrev pub visit_words : (number index : ℕ) (x y : ℤ) → VisitWords
visit_words number index x y = record { number = number; index = index; x = x; y = y }

-- what a step leaves in them: the first visit to come, or at the end the old contents
abbrev pub visit_left : List FileVisit → VisitWords → VisitWords
visit_left [] old = old
visit_left (v ∷ vs) old = visit_words v.number v.index v.x v.y
