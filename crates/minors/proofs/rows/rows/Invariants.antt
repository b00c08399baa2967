-- `rows`: the rows so far stand.
use Rattle.std.proofs.Common.{ℕ, ◌<◌, get_or}
use Rattle.minors.specs.Minors.{IsRow}
use Rattle.minors.proofs.rows.rows.Given as goal

abbrev pub invariant-loop-r : goal.invariant-loop-r
invariant-loop-r l = (s : ℕ) → s < l.r → IsRow l.columns s (get_or l.word-items s 0)
