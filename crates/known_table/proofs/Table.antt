-- The one proof of the table of known points: the definitions compute them. Assumes nothing.
use mathlib.Core.Path.{refl, sym, ap, subst}
use lib.Count.{count_leading_zeros}
use lib.Ieee.{of_bits, to_bits}
use Rattle.ranges.specs.Skip.{skip}
use Rattle.ranges.specs.Search.{search}
use Rattle.ranges.specs.Each.{Each}
use Rattle.digits.specs.Digits.{digitwise, plus, times}
use Rattle.digits.proofs.Two.{one_lt_two}
use Rattle.linear.specs.Matrix.{sum, det}
use Rattle.net.specs.Generators.{product}
use Rattle.net.specs.Shape.{matrix}
use Rattle.net.specs.Check.{least_index, first_a, first_m, check}
use Rattle.net.specs.Query.{visit_index, locate}
use Rattle.net.specs.Scrambling.{nested}
use Rattle.net.proofs.Standard.{iterate, add_down, iterated}
use Rattle.net.proofs.Columns.{standard_is}
use Rattle.refusal.specs.Outcome.{first, granted}
use Rattle.flips.specs.Flips.{flip_bit, flip_at}
use Rattle.plan.specs.declared.pair.Plan.{Plan}
use Rattle.plan.specs.Pair.{of_matrices}
use Rattle.known_table.specs.Known.{Holds, table, KnownPoints}

-- the standard pair in the form that computes fast, each column from the one before
fast : Plan
fast = of_matrices (iterated 2 32 32)

computed : Each (Holds fast) table
unfolding fast iterate add_down digitwise plus times sum skip det product matrix search least_index first_a first_m check
    visit_index locate nested flip_at flip_bit first granted count_leading_zeros of_bits to_bits
computed = (refl, (refl, (refl, (refl, (refl, (refl, (refl, (refl, (refl, (refl, (refl, tt)))))))))))

pub known : KnownPoints
unfolding fast
known = subst (λ (P : Plan). Each (Holds P) table) (sym (ap of_matrices (standard_is one_lt_two 32 32))) computed
