-- Text put into a buffer.
use Rattle.std.specs.Prelude.{cond, List, ℕ, ◌+◌, leb, length}
use Rattle.std.proofs.Math.Seq.{paste}

-- the buffer d with the text s from byte `at` on
abbrev pub put : List ℕ → ℕ → List ℕ → List ℕ
put d at s = paste d at s (length s)

-- the buffer after a writer whose longest text has w bytes: with the text where w bytes are left, and else as it was
abbrev pub written : ℕ → List ℕ → ℕ → List ℕ → List ℕ
written w d at s = cond (leb (at + w) (length d)) (put d at s) d

-- what the writer hands back: where the text ends, or `at` where it has written nothing
abbrev pub end : ℕ → List ℕ → ℕ → List ℕ → ℕ
end w d at s = cond (leb (at + w) (length d)) (at + length s) at
