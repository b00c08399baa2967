-- `masked`: as many leading bits as there are masks choose one of them.
use Rattle.std.proofs.Common.{ℕ, get_or, sym, ap, ◌∙◌, ◌≤◌, arith}
use Rattle.digits.specs.Digits.{plus}
use Rattle.digits.proofs.Two.{one_lt_two, plus-two}
use Rattle.net.proofs.Interval.{top_lt}
use Rattle.products.proofs.masking.Masking.masked.Goals as goal

pub bounds-self-top : goal.bounds-self-top
bounds-self-top c =
    let m = c.args.self.now in
    let few : m.bits ≤ 32 = omega (arith, m.few) in
    omega (arith, c.top.ensures, top_lt one_lt_two 32 m.bits c.args.word few c.ranges.word.fits, m.one_each)

pub returns : goal.returns
returns c =
    let mask : ℕ → ℕ = λ k. get_or c.args.self.now.masks.now k 0 in
    sym (plus-two c.args.word (mask c.top.result)) ∙ ap (λ (k : ℕ). plus 2 c.args.word (mask k)) c.top.ensures
