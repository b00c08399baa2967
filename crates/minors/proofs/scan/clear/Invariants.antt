-- `clear`: the words so far are cleared, and the words to come stand as they were.
use Rattle.std.proofs.Common.{◌≡◌, ℕ, ◌≤◌, ◌<◌, get_or}
use Rattle.minors.specs.Minors.{bit_cleared}
use Rattle.minors.proofs.scan.clear.Given as goal

abbrev pub invariant-loop-word : goal.invariant-loop-word
invariant-loop-word l = record {
  cleared : (t : ℕ) → t < l.word-index → get_or l.words t 0 ≡ bit_cleared l.by l.c (get_or l.initial.words t 0);
  to_come : (t : ℕ) → l.word-index ≤ t → get_or l.words t 0 ≡ get_or l.initial.words t 0;
}
