-- `judging::judge_head`: a whole file has the reserved bytes.
use mathlib.Core.Path.{sym, ◌∙◌}
use native.Mathlib.Omega.{arith}
use Rattle.region_file.proofs.Chain.{whole_has}
use Rattle.region_file.proofs.judging.judge_head.Goals as goal

pub zeros-requires : goal.zeros-requires
zeros-requires c =
    let w = whole_has _ (sym c.is_whole.ensures ∙ c.if-not-is_whole.false) in
    omega (arith, w.some, w.even)
