-- `scan`: after each turn one more row of X is reduced, and for one more a the rows up to top.
use mathlib.Core.List.{List}
use Prim.Native.Nat.{ℕ, ◌-◌, ◌≤◌}
use Rattle.minors.specs.Minors.{AreRows}
use Rattle.minors.proofs.Scanned.{Scanned}
use Rattle.minors.proofs.scan.scan.Given as goal

abbrev pub invariant-loop-a : goal.invariant-loop-a
invariant-loop-a l = (l.a ≤ 32) × (l.top ≤ l.level) × (l.at ≤ l.top) × ((X Y : List ℕ) → AreRows X l.initial.x → AreRows Y l.initial.y
    → Scanned X Y l.a l.top l.at l.x l.y)

abbrev pub decreases-loop-a : goal.decreases-loop-a
decreases-loop-a l = 32 - l.a
