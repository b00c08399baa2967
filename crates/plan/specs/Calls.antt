-- What the point of an index comes to, where flips are refused or not.
use Rattle.std.specs.Prelude.{ℕ}
use Rattle.net.specs.Sequence.{point}
use Rattle.refusal.specs.Outcome.{Outcome, accepted, first}
use Rattle.flips.specs.Load.{flips_tests}
use Rattle.plan.specs.Pair.{sequence}
use Rattle.plan.specs.declared.pair.Plan.{Plan}
use Rattle.plan.specs.declared.points.Scramble.{Scramble}

-- refused under 17 or 18, in this order, or the point
abbrev pub point_outcome : Plan → Scramble → ℕ → Outcome (ℕ × ℕ)
point_outcome P s i = first (flips_tests s.flips) (accepted (point (sequence P s) i))
