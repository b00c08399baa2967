-- `clear_all`: the words before t are cleared, and from there on nothing has changed.
use Rattle.std.proofs.Common.{◌≡◌, ℕ, ◌≤◌, length, get_or}
use Rattle.elimination.specs.Basis.{Clears}
use Rattle.elimination.proofs.clearing.clear_all.Given as goal

abbrev pub invariant-loop-t : goal.invariant-loop-t
invariant-loop-t l = record {
  long : length l.indexes ≡ length l.fn.words;
  clears : Clears l.pivot.word l.pivot.index 0 l.t l.fn.words l.fn.indexes l.words l.indexes;
  words_stay : (d : ℕ) → l.t ≤ d → get_or l.words d 0 ≡ get_or l.fn.words d 0;
  indexes_stay : (d : ℕ) → l.t ≤ d → get_or l.indexes d 0 ≡ get_or l.fn.indexes d 0;
}
