-- From the number of a plain cell to the index, by an elimination over the columns of the shape; under a scramble the plain cell is the one from
-- which it leads to the cell that is asked for. Assumes nothing.
use mathlib.Core.Path.{refl, sym, ◌∙◌}
use mathlib.Core.List.{List}
use Prim.Native.Nat.{ℕ, ◌+◌, ◌-◌, ◌*◌, ◌^◌, ◌<◌}
use lib.Bits.{bit_xor}
use Rattle.ranges.specs.Unique.{Only}
use Rattle.net.specs.Sequence.{VisitIn}
use Rattle.net.specs.Scrambling.{plain, digital}
use Rattle.net.specs.Shape.{Shape}
use Rattle.net.specs.Elimination.{interval}
use Rattle.net.proofs.Basis.{index-scrambled}
use Rattle.word.specs.Matrices.{pair}
use Rattle.plan.specs.declared.points.Scramble.{Scramble}
use Rattle.plan.specs.Pair.{scrambling}
use Rattle.elimination.specs.Elimination.{ShapeColumns, Eliminates}
use Rattle.elimination.proofs.Shapes.{apart_without_kernel}
use Rattle.stratify.specs.Answers.{ShiftFits}
use Rattle.stratify.specs.Strips.{plain_number}
use Rattle.stratify.proofs.LedBack.{lawful, undone-x, undone-y, number_less, row_before}

pub answer : {x y : List ℕ} {m a : ℕ} → Shape (pair x y) m a → (s : Scramble) → ShiftFits s.shift → (k c r : ℕ) → c < 2 ^ a → r < 2 ^ (m - a)
    → {columns : List ℕ} → ShapeColumns (pair x y) m a columns → (index : ℕ)
    → Eliminates columns m (bit_xor (plain_number s m a c r) (interval (plain (pair x y)) m a (k * 2 ^ m))) 0 index
    → Only (VisitIn (digital (pair x y) (scrambling s)) m a k c r) (k * 2 ^ m + index)
answer {m = m} {a = a} shape s fits k c r hc hr are index e =
    index-scrambled shape (apart_without_kernel shape are e.kernel_is refl) (lawful s fits) (undone-x s fits) (undone-y s fits) k c r hc hr index
    (λ i h is. e.found refl i h (are i h ∙ is ∙ sym (number_less shape k _ _ (row_before shape s fits r hr))))
