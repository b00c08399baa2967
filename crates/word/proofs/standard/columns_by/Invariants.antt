-- `columns_by`: what is ensured of the columns so far, and of the word, which is the column to come.
use Rattle.std.proofs.Common.{◌≡◌, ℕ, ◌+◌, ◌^◌, ◌<◌, get_or}
use Rattle.word.proofs.standard.columns_by.Given as goal

abbrev pub invariant-loop-entry : goal.invariant-loop-entry
invariant-loop-entry g l = record {
  begun : l.entry-index ≡ 0 → l.word ≡ 2 ^ 31;
  first : 0 < l.entry-index → get_or l.entry-items 0 0 ≡ 2 ^ 31;
  next : (c : ℕ) → c + 1 < l.entry-index → goal.F-post g l.step (get_or l.entry-items c 0) (get_or l.entry-items (c + 1) 0);
  last : (c : ℕ) → c + 1 ≡ l.entry-index → goal.F-post g l.step (get_or l.entry-items c 0) l.word;
}
