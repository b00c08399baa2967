-- `prefixes`: the sum is the product with as many ones as columns are in it, and the columns to come stand as they were.
use Rattle.std.proofs.Common.{◌≡◌, bit_xor, ℕ, ◌≢◌, List, map, length, get_or, refl, sym, ap, ap₂, ◌∙◌, zero-add, add-one, arith, rules}
use Rattle.std.proofs.Common.{get_or-set_other}
use Rattle.ranges.specs.Range.{range}
use Rattle.ranges.proofs.Filled.{filled_none, filled_more, filled_all}
use Rattle.digits.proofs.Two.{one_lt_two, plus-two}
use Rattle.net.proofs.Product.{product-additive}
use Rattle.net.proofs.Additive.{of_zero}
use Rattle.word.specs.Prefix.{ones}
use Rattle.word.proofs.Prefix.{product-ones}
use Rattle.word.proofs.sums.prefixes.Invariants.{first, running}
use Rattle.word.proofs.sums.prefixes.Goals as goal

nothing : (columns : List ℕ) → 0 ≡ first columns 0
unfolding ones
nothing columns = sym (of_zero (product-additive one_lt_two columns))

more : (columns : List ℕ) (sum n x : ℕ) → sum ≡ first columns n → x ≡ get_or columns n 0 → bit_xor sum x ≡ running columns n
more columns sum n x e is =
    ap₂ (λ (a b : ℕ). bit_xor a b) e is ∙ sym (plus-two (first columns n) (get_or columns n 0)) ∙ sym (product-ones one_lt_two columns n)

pub loop-entry-init : goal.loop-entry-init
loop-entry-init c = record { filled = filled_none; to_come = λ k h. refl; sum_is = nothing c.args.columns }

pub loop-entry-preserved : goal.loop-entry-preserved
loop-entry-preserved c =
    let l = c.loop-entry in
    let columns = c.args.columns in
    let e = more columns l.sum l.entry-index _ l.invariant.sum_is (l.invariant.to_come l.entry-index (omega arith)) in record {
      filled = filled_more l.invariant.filled _ (e ∙ ap (running columns) (sym (zero-add l.entry-index))) (omega arith);
      to_come = λ k h. let other : k ≢ l.entry-index = omega arith in rw get_or-set_other (l.invariant.to_come k (omega arith));
      sum_is = e ∙ ap (first columns) (sym (add-one l.entry-index));
    }

pub returns : goal.returns
returns c =
    let l = c.loop-entry in
    let many : length c.args.columns ≡ 32 = search rules in
    filled_all l.invariant.filled (omega arith) ∙ ap (λ (n : ℕ). map (running c.args.columns) (range 0 n)) many
