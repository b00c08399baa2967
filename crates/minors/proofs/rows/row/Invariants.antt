-- `row`: the entries in the columns so far, from the last on, are the bits of the word.
use Rattle.std.proofs.Common.{◌-◌, ◌≤◌, length}
use Rattle.net.specs.Generators.{entry}
use Rattle.minors.proofs.Transposed.{From}
use Rattle.minors.proofs.rows.row.Given as goal

abbrev pub invariant-loop-column : goal.invariant-loop-column
invariant-loop-column l = (length l.yielded ≤ 32) × From (entry 2 32 l.fn.columns l.r) (32 - length l.yielded) l.word
