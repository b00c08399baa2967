-- `records::at_next_visit`. The loop's invariant: the visits from n on, over the links that are left, are those from the start on, over those
-- that count.
use mathlib.Core.Path.{◌≡◌}
use Prim.Native.Nat.{◌-◌, ◌^◌, ◌<◌}
use Rattle.visits.specs.FileWalk.{visits_from, links_counted}
use Rattle.visits.proofs.records.at_next_visit.Given as goal

abbrev pub invariant-loop-passed : goal.invariant-loop-passed
invariant-loop-passed l = (l.n < 2 ^ 32) × (visits_from l.file (l.counted - l.passed) l.n ≡ visits_from l.file (links_counted l.links) l.start)
