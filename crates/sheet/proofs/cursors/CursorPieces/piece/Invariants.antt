-- `CursorPieces::piece`: what stands in the buffer, with the text to come, stays the same, line by line.
use Rattle.std.proofs.Common.{◌≡◌, ℕ, ◌-◌, ◌≤◌, List, ◌++◌, length, take, drop}
use Rattle.sheet.specs.declared.cursors.Cursor.{Cursor}
use Rattle.sheet.specs.Cursor.{sheet_to_come}
use Rattle.sheet.proofs.cursors.CursorPieces.piece.Given as goal

-- the text in the buffer and the text to come are what was to come at first, and behind it the buffer is as it was
pub record Kept (file out₀ : List ℕ) (cursor₀ : Cursor) (out : List ℕ) (cursor : Cursor) (len : ℕ) : Type 0 where
  pub fits : len ≤ length out
  pub same : length out ≡ length out₀
  pub joins : take len out ++ sheet_to_come file cursor ≡ sheet_to_come file cursor₀
  pub beyond : drop len out ≡ drop len out₀

abbrev pub invariant-loop-out : goal.invariant-loop-out
invariant-loop-out l = Kept l.file l.initial.out l.initial.self l.out l.self l.len

abbrev pub decreases-loop-out : goal.decreases-loop-out
decreases-loop-out l = length l.out - l.len
