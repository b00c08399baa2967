-- From a cell under flips and a shift back to the cell of the plain run from which it comes.
use Rattle.std.specs.Prelude.{List, ℕ, ◌-◌}
use Rattle.net.specs.Scrambling.{prefix_before}
use Rattle.net.specs.Elimination.{serial}
use Rattle.flips.specs.Scramble.{unscramble_word}
use Rattle.plan.specs.declared.points.Scramble.{Scramble}

-- of the 2 ^ t equal strips of an axis (01's word), the one from which flips and then a shift lead to strip c
abbrev pub plain_strip : (flips : List ℕ) → (shift t c : ℕ) → ℕ
plain_strip flips shift t c = prefix_before 2 32 (unscramble_word flips shift) t c

-- the column and the row from which a scramble leads to column c and row r of the shape (m, a)
abbrev pub plain_column : Scramble → (a c : ℕ) → ℕ
plain_column s a c = plain_strip s.flips.x s.shift.x a c

abbrev pub plain_row : Scramble → (m a r : ℕ) → ℕ
plain_row s m a r = plain_strip s.flips.y s.shift.y (m - a) r

-- and the number of that cell
abbrev pub plain_number : Scramble → (m a c r : ℕ) → ℕ
plain_number s m a c r = serial 2 (m - a) (plain_column s a c) (plain_row s m a r)
