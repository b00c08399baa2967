-- `put_numbers`: the numbers of the cells passed are put.
use Rattle.std.proofs.Common.{◌≡◌, ℕ, ◌<◌, get_or}
use Rattle.stratify.specs.Strips.{plain_number}
use Rattle.stratify.proofs.overviews.Cells.put_numbers.Given as goal

abbrev pub invariant-loop-i : goal.invariant-loop-i
invariant-loop-i l = (d : ℕ) → d < l.i → get_or l.answers d 0
    ≡ plain_number l.scramble l.shape.m l.shape.a (get_or l.columns d 0) (get_or l.rows d 0)
