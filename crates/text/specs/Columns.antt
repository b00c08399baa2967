-- Texts set in columns.
use Rattle.std.specs.Prelude.{List, [], ◌∷◌, ◌++◌, ℕ, ◌+◌, ◌-◌, max, length, replicate}
use Rattle.text.specs.Ascii.{blank}

-- a text right-aligned in w columns: blanks stand before it. A text that is wider stands whole.
unfoldable pub right : ℕ → List ℕ → List ℕ
right w text = replicate (w - length text) blank ++ text

-- and the byte after it
abbrev pub aligned : ℕ → List ℕ → ℕ → List ℕ
aligned w text last = right w text ++ (last ∷ [])

-- the length of the longest column, where no text with the byte after it is longer than m bytes
abbrev pub longest_aligned : ℕ → ℕ → ℕ
longest_aligned w m = max (w + 1) m
