-- `put_lines`: what stands in the buffer, with the lines to come, stays the same.
use mathlib.Core.Path.{◌≡◌}
use mathlib.Core.List.{List, ◌++◌}
use Prim.Native.Nat.{ℕ, ◌-◌, ◌≤◌}
use lib.ListN.{length, take, drop}
use Rattle.visits.specs.declared.file_walks.FileWalk.{FileWalk}
use Rattle.visits.specs.FileWalk.{visits_to_come}
use Rattle.listing.specs.Listing.{lines}
use Rattle.listing.proofs.lines.put_lines.Given as goal

pub record Putting (file : List ℕ) (p : FileWalk) (d : List ℕ) (at : ℕ) (q : FileWalk) (e : List ℕ) (len : ℕ) : Type 0 where
  pub on : at ≤ len
  pub fits : len ≤ length e
  pub same : length e ≡ length d
  pub joins : take len e ++ lines (visits_to_come file q) ≡ take at d ++ lines (visits_to_come file p)
  pub beyond : drop len e ≡ drop len d

abbrev pub invariant-loop-out : goal.invariant-loop-out
invariant-loop-out l = Putting l.file l.initial.walk l.initial.out l.at l.walk l.out l.len

abbrev pub decreases-loop-out : goal.decreases-loop-out
decreases-loop-out l = length l.out - l.len
