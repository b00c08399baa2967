-- `by_tables`: each group that is written leads to the next.
use Rattle.std.proofs.Common.{◌≡◌, ◌+◌, ◌-◌, ◌*◌, ◌^◌, ◌≤◌, ◌<◌, length, take, drop, ap, ◌∙◌, arith}
use Rattle.ranges.proofs.Range.{length-each}
use Rattle.digits.proofs.Two.{one_lt_two}
use Rattle.net.specs.Sequence.{top}
use Rattle.net.proofs.Interval.{top_lt}
use Rattle.products.proofs.Consecutive.{along_none, along_group, along_all, table-part}
use Rattle.products.proofs.groups.by_tables.Given.{Over}
use Rattle.products.proofs.groups.by_tables.Goals as goal
use Rattle.products.proofs.groups.by_tables.Goals.{After-place-at}

-- a table begins there
placed : (g : Over) (c : After-place-at g) → let v = top 2 32 c.args.masking.bits c.loop-g.word in
    (c.place-at.result ≡ v * 64) × (v < 2 ^ c.args.masking.bits) × (c.place-at.result + 64 ≤ length c.args.tables.now)
placed g c =
    let m = c.args.masking in
    let word = c.loop-g.word in
    let fits = c.loop-g.invariant.fits in
    let few : m.bits ≤ 32 = omega (arith, m.few) in
    let at = c.requires.places word c.place-at.result fits c.place-at.ensures in
    let small = top_lt one_lt_two 32 m.bits word few fits in
    let many : length c.args.tables.now ≡ 2 ^ m.bits * 64 = ap length c.requires.tables_value ∙ length-each _ 0 (2 ^ m.bits * 64) in
    (at, small, omega (arith, at, small, many))

pub loop-g-init : goal.loop-g-init
loop-g-init g c = record { fits = c.product-word.type_inv; along = along_none c.product-word.ensures }

pub overflow_add-at : goal.overflow_add-at
overflow_add-at g c = let e = placed g c in omega arith

pub offset_bounds-tables-at : goal.offset_bounds-tables-at
offset_bounds-tables-at g c = let e = placed g c in omega arith

pub slice_bounds-put_group-end : goal.slice_bounds-put_group-end
slice_bounds-put_group-end g c = let e = placed g c in omega arith

pub loop-g-preserved : goal.loop-g-preserved
loop-g-preserved g c =
    let l = c.loop-g in
    let a = c.args in
    let at = c.place-at.result in
    let e = placed g (goal.at.loop-g-preserved g c).After-place-at in
    record {
      fits = c.next_group-word.type_inv;
      along = along_group l.invariant.along (take (at + 64 - at) (drop at a.tables.now))
          (table-part a.axis.columns a.masking.bits a.masking.masks.now a.tables.now c.requires.tables_value (top 2 32 a.masking.bits l.word) at
          (at + 64 - at) e.0 (omega arith) e.1)
          (omega arith) (l.g * 64 + 64 - l.g * 64) c.put_group.new.out (omega arith) c.put_group.ensures ((l.g + 1) * 64) (omega arith)
          (omega arith) c.next_group-word.result (λ m. c.next_group-word.ensures (omega arith));
    }

pub returns : goal.returns
returns g c = along_all c.loop-g.invariant.along (omega arith)
