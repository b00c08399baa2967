-- Points and visits with their coordinates as singles, and steps over them.
use Rattle.std.specs.Prelude.{ℕ}
use Rattle.ranges.specs.Walk.{Walk, Stepped, step}
use Rattle.net.specs.Sequence.{Sequence, point}
use Rattle.refusal.specs.Outcome.{Outcome, accepted, first, through}
use Rattle.word.specs.Index.{last_index}
use Rattle.flips.specs.Load.{flips_tests}
use Rattle.plan.specs.declared.pair.Plan.{Plan}
use Rattle.plan.specs.declared.points.Point.{Point}
use Rattle.plan.specs.declared.points.Scramble.{Scramble}
use Rattle.plan.specs.declared.walks.Visit.{Visit}
use Rattle.plan.specs.Pair.{sequence, of_point}
use Rattle.plan.specs.Calls.{point_outcome}
use Rattle.unit.specs.declared.pairs.Singles.{Singles}
use Rattle.unit.specs.Word.{single}

-- a point as two singles
abbrev pub singles_of : ℕ × ℕ → Singles
singles_of p = record { x = single p.0; y = single p.1 }

-- what the singles of an index come to: refused where its point is
abbrev pub singles_outcome : Plan → Scramble → ℕ → Outcome Singles
singles_outcome P s i = through singles_of (point_outcome P s i)

-- the visit of index i: the index with its point as singles
abbrev pub visit_singles : Sequence → ℕ → Visit Singles
visit_singles S i = record { index = i; at = singles_of (point S i) }

-- the same of a visit that has its point
abbrev pub visit_in_singles : Visit Point → Visit Singles
visit_in_singles v = record { index = v.index; at = singles_of (of_point v.at) }

-- what a step from the walk w comes to, its visit as singles: refused under 17 or 18 as the plan's step is
abbrev pub singles_step_outcome : Plan → Scramble → Walk → Outcome (Stepped (Visit Singles))
singles_step_outcome P s w = first (flips_tests s.flips) (accepted (step (visit_singles (sequence P s)) last_index w))
