-- `put_columns`: the columns before c are the plain cells of their own indexes.
use Rattle.std.proofs.Common.{◌≡◌, ℕ, ◌^◌, ◌<◌, length, get_or}
use Rattle.net.specs.Scrambling.{plain}
use Rattle.net.specs.Elimination.{interval}
use Rattle.word.specs.Matrices.{pair}
use Rattle.elimination.proofs.columns.put_columns.Given as goal

abbrev pub invariant-loop-c : goal.invariant-loop-c
invariant-loop-c l = record {
  long : length l.columns ≡ 32;
  each : (t : ℕ) → t < l.c → get_or l.columns t 0 ≡ interval (plain (pair l.plan.x l.plan.y)) l.m l.a (2 ^ t);
}
