-- `put_group`: the words so far stand.
use Rattle.std.proofs.Common.{ℕ, List, get_or}
use Rattle.ranges.proofs.Filled.{Filled}
use Rattle.digits.specs.Digits.{plus}
use Rattle.products.proofs.groups.put_group.Given as goal

abbrev pub put : ℕ → List ℕ → ℕ → ℕ
put word table i = plus 2 word (get_or table i 0)

abbrev pub invariant-loop-i : goal.invariant-loop-i
invariant-loop-i l = Filled (put l.word l.table) 0 l.i l.initial.out l.out
