-- `shape_columns`: past both tests (m, a) is a shape.
use Rattle.std.proofs.Common.{arith, rules, Fits, get_or, w32}
use Rattle.plan.proofs.Laws.{words_valid}
use Rattle.elimination.proofs.columns.shape_columns.Goals as goal

pub put_columns-requires : goal.put_columns-requires
put_columns-requires c =
    let P = c.args.plan in record {
      valid = words_valid P.x P.y
          (λ t. let f : Fits w32 (get_or P.x t 0) = search rules in f.fits)
          (λ t. let f : Fits w32 (get_or P.y t 0) = search rules in f.fits);
      wide = omega arith;
      fits = omega arith;
    }
