-- What point calls, a fill and the steps of a walk give, as lists of visits.
use Rattle.std.specs.Prelude.{List, [], ◌∷◌, map, ℕ, suc}
use Rattle.ranges.specs.Range.{range}
use Rattle.ranges.specs.Walk.{Walk, answers, visits_given}
use Rattle.net.specs.Sequence.{Sequence, point}
use Rattle.net.specs.Run.{Visit, visit}
use Rattle.word.specs.Index.{last_index}
use Rattle.plan.specs.Fill.{Buffers}

-- an index with a point
abbrev pub visit_at : ℕ → ℕ × ℕ → Visit
visit_at i p = record { index = i; x = p.0; y = p.1 }

-- the point calls for n indexes from start on, in rising order
abbrev pub pointed : Sequence → ℕ → ℕ → List Visit
pointed S start n = map (λ i. visit_at i (point S i)) (range start n)

-- what two buffers hold, read as the points of the indexes from start on
unfoldable pub paired : ℕ → List ℕ → List ℕ → List Visit
paired start [] ys = []
paired start (x ∷ xs) [] = []
paired start (x ∷ xs) (y ∷ ys) = visit_at start (x, y) ∷ paired (suc start) xs ys

abbrev pub held : ℕ → Buffers → List Visit
held start b = paired start b.x b.y

-- the visits that n steps give, the first on the walk w and each later one on the walk that the one before it handed back
abbrev pub visits_walked : Sequence → ℕ → Walk → List Visit
visits_walked S n w = visits_given (answers (visit S) last_index n w)
