-- `put_tables`: each entry is made of the first group, whatever matrix it comes from.
use Rattle.std.proofs.Common.{ℕ, ◌%◌, ◌/◌, ◌<◌, List, map, get_or, sym, ap, ◌∙◌, zero-add, arith}
use Rattle.ranges.specs.Range.{range}
use Rattle.ranges.proofs.Filled.{filled_none, filled_more, filled_all}
use Rattle.digits.specs.Digits.{plus}
use Rattle.net.specs.Sequence.{top}
use Rattle.products.proofs.Consecutive.{first-product}
use Rattle.products.proofs.tables.put_tables.Invariants.{entry}
use Rattle.products.proofs.tables.put_tables.Goals as goal

abbrev masked_from : ℕ → List ℕ → (v w : ℕ) → ℕ
masked_from t masks v w = plus 2 w (get_or masks (plus 2 v (top 2 32 t w)) 0)

pub loop-n-init : goal.loop-n-init
loop-n-init c = λ C e. filled_none

pub loop-n-preserved : goal.loop-n-preserved
loop-n-preserved c =
    let n = c.loop-n.n in
    let m = c.args.masking in
    let i : n % 64 < 64 = omega arith in
    λ C e. filled_more (c.loop-n.invariant C e) c.table_entry.result
    (c.table_entry.ensures ∙ ap (masked_from m.bits m.masks.now (n / 64)) (first-product C c.singly.new.out e (n % 64) i)
    ∙ ap (entry m.bits m.masks.now C) (sym (zero-add n))) (omega arith)

pub returns : goal.returns
returns c =
    let m = c.args.masking in
    filled_all (c.loop-n.invariant c.args.axis.columns c.singly.ensures) (omega arith)
    ∙ ap (λ (n : ℕ). map (entry m.bits m.masks.now c.args.axis.columns) (range 0 n)) c.requires
