-- What a fill comes to, and what it leaves in the two buffers.
use Rattle.std.specs.Prelude.{not, List, [], ◌∷◌, map, ℕ, eqb, length}
use Rattle.ranges.specs.Range.{range}
use Rattle.net.specs.Sequence.{Sequence}
use Rattle.refusal.specs.Outcome.{Outcome, accepted, Test, first, granted}
use Rattle.flips.specs.declared.sets.Flips.{Flips}
use Rattle.flips.specs.Load.{not_flips, unused_set}
use Rattle.plan.specs.Range.{past_last}

-- 8: buffers differ in length
abbrev pub lengths_differ : List ℕ → List ℕ → Test
lengths_differ xs ys = record { number = 8; holds = not (eqb (length xs) (length ys)) }

-- what a fill of buffers that hold xs and ys comes to, from index start on, where there are n indexes: refused under 17, 18, 8 or 9, in this
-- order
abbrev pub fill_outcome : (n : ℕ) → Flips → (start : ℕ) → List ℕ → List ℕ → Outcome Unit
fill_outcome n f start xs ys =
    first (not_flips f ∷ unused_set f ∷ lengths_differ xs ys ∷ past_last n start (length xs) ∷ []) (accepted tt)

-- the content of the two buffers
pub record Buffers : Type 0 where
  pub x : List ℕ
  pub y : List ℕ

-- what they hold then: the coordinates of the indexes from start on, in order, in every word of both; a refused fill leaves xs and ys
abbrev pub filled : (n : ℕ) → Flips → Sequence → (start : ℕ) → List ℕ → List ℕ → Buffers
filled n f S start xs ys =
    granted (fill_outcome n f start xs ys)
    (record { x = map S.x (range start (length xs)); y = map S.y (range start (length ys)) })
    (record { x = xs; y = ys })
