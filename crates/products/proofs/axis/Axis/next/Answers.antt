-- `next`: a running sum leads to the next index.
use Rattle.std.proofs.Common.{◌≡◌, ℕ, ◌+◌, ◌%◌, ◌^◌, ◌<◌, ap, ◌∙◌, arith}
use Rattle.std.proofs.Math.Nat.{mod-eq_of_lt}
use Rattle.std.specs.Int.Count.{count_trailing_zeros}
use Rattle.word.proofs.Prefix.{trailing_zeros-below}
use Rattle.products.proofs.Consecutive.{next_word}
use Rattle.products.proofs.axis.Axis.next.Goals as goal

pub returns : goal.returns
returns c = λ h.
    let a = c.args in
    let fits : a.index + 1 < 2 ^ 32 = omega arith in
    let zeros : count_trailing_zeros 32 ((a.index + 1) % 2 ^ 32) % 32 ≡ count_trailing_zeros 32 (a.index + 1) =
    ap (λ (n : ℕ). count_trailing_zeros 32 n % 32) (mod-eq_of_lt fits) ∙ mod-eq_of_lt (trailing_zeros-below (a.index + 1) (omega arith) fits) in
    next_word a.self.now.columns a.self.now.sums a.self.now.sums_value a.word a.index _ zeros fits c.requires
