-- Inner promise: what putting lines into a buffer has done.
use Rattle.std.specs.Prelude.{◌≡◌, List, [], ◌++◌, ℕ, ◌+◌, ◌≤◌, length, take, drop}
use Rattle.visits.specs.declared.file_walks.FileWalk.{FileWalk}
use Rattle.visits.specs.FileWalk.{visits_to_come}
use Rattle.listing.specs.Listing.{lines, longest_line}

-- From the walk p and the buffer d, filled to `at`, to the walk q and the buffer e, filled to len: together with the lines to come, what
-- stands in the buffer is the same; where a line more has room, none is to come; behind it nothing has changed.
pub record LinesPut (file : List ℕ) (p : FileWalk) (d : List ℕ) (at : ℕ) (q : FileWalk) (e : List ℕ) (len : ℕ) : Type 0 where
  pub on : at ≤ len
  pub fits : len ≤ length e
  pub joins : take len e ++ lines (visits_to_come file q) ≡ take at d ++ lines (visits_to_come file p)
  pub stops : len + longest_line ≤ length e → visits_to_come file q ≡ []
  pub beyond : drop len e ≡ drop len d
