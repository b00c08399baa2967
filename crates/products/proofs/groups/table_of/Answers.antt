-- `table_of`: a word has at most as many leading bits as were asked for.
use mathlib.Core.Path.{ap}
use Prim.Native.Nat.{ℕ, ◌*◌, ◌≤◌}
use native.Mathlib.Omega.{arith}
use Rattle.digits.proofs.Two.{one_lt_two}
use Rattle.net.proofs.Interval.{top_lt}
use Rattle.products.proofs.groups.table_of.Goals as goal

pub returns : goal.returns
returns c =
    let few : c.args.bits ≤ 32 = omega (arith, c.requires) in
    (ap (λ (n : ℕ). n * 64) c.top.ensures, top_lt one_lt_two 32 c.args.bits c.args.word few c.ranges.word.fits)
