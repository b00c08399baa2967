-- `table_entry`: both numbers that are added have as many bits as choose a mask.
use Rattle.std.proofs.Common.{◌≡◌, ℕ, bit_xor, get_or, ◌≤◌, sym, ap, ◌∙◌, arith}
use Rattle.digits.specs.Digits.{plus}
use Rattle.digits.proofs.Arithmetic.{plus_lt}
use Rattle.digits.proofs.Two.{one_lt_two, plus-two}
use Rattle.net.specs.Sequence.{top}
use Rattle.net.proofs.Interval.{top_lt}
use Rattle.products.proofs.tables.table_entry.Goals as goal
use Rattle.products.proofs.tables.table_entry.Goals.{After-top}

-- the place of the mask
place : (c : goal.After-top) → bit_xor c.args.v c.top.result ≡ plus 2 c.args.v (top 2 32 c.args.masking.bits c.args.product)
place c = let v = c.args.v in sym (plus-two v c.top.result) ∙ ap (plus 2 v) c.top.ensures

pub bounds-masking-v : goal.bounds-masking-v
bounds-masking-v c =
    let a = c.args in
    let m = a.masking in
    let few : m.bits ≤ 32 = omega (arith, m.few) in
    let small = plus_lt one_lt_two m.bits a.v (top 2 32 m.bits a.product) c.requires
    (top_lt one_lt_two 32 m.bits a.product few c.ranges.product.fits) in
    omega (arith, place c, small, m.one_each)

pub returns : goal.returns
returns c =
    let a = c.args in
    let mask : ℕ → ℕ = λ k. get_or a.masking.masks.now k 0 in
    sym (plus-two a.product (mask (bit_xor a.v c.top.result))) ∙ ap (λ (k : ℕ). plus 2 a.product (mask k)) (place (goal.at.returns c).After-top)
