-- `in_groups`: the one table is copied whole.
use Rattle.std.proofs.Common.{◌≡◌, ◌^◌, ◌*◌, length, replicate, sym, ap, ◌∙◌}
use Rattle.ranges.proofs.Range.{length-each}
use Rattle.word.proofs.Copied.{copied_whole}
use Rattle.products.proofs.groups.in_groups.Goals as goal

pub by_tables-requires-clause-tables_value : goal.by_tables-requires-clause-tables_value
by_tables-requires-clause-tables_value c =
    let a = c.args in
    let many : length a.tables.now ≡ 64 = ap length c.requires.tables_value ∙ length-each _ 0 (2 ^ a.masking.bits * 64) ∙ rw c.if-bits-eq0.true in
    c.copy.ensures ∙ copied_whole (replicate 64 0) a.tables.now (sym many) ∙ c.requires.tables_value
