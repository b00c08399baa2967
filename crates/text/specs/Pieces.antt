-- A text that is handed out piece by piece. A cursor goes on with each call.
use Rattle.std.specs.Prelude.{◌≡◌, List, [], ◌∷◌, ◌++◌, ℕ, ◌+◌, ◌≤◌, length, take}

-- n counts elements at the start of a list. The second part follows from the first; it lets a caller lend `&buffer[..n]` without a proof.
-- (The kit's io has the same definition, but io rests on C functions.)
abbrev pub Counts : ℕ → List ℕ → Type 0
Counts n xs = (n ≤ length xs) × (n ≡ length (take n xs))

-- the pieces, one after the other
abbrev pub join : List (List ℕ) → List ℕ
join [] = []
join (p ∷ ps) = p ++ join ps

-- A call from the cursor c with a buffer of `room` bytes gives a piece and the cursor d past it. `to_come` is the text still to come from a
-- cursor, and no line of it has more than w bytes.
pub record Piece {C : Type 0} (to_come : C → List ℕ) (w : ℕ) (c d : C) (piece : List ℕ) (room : ℕ) : Type 0 where
  -- the piece is the start of the text to come
  pub joins : piece ++ to_come d ≡ to_come c
  -- a piece that leaves room for one line more is the last one
  pub stops : length piece + w ≤ room → to_come d ≡ []

-- calls one after the other, each from the cursor that the one before handed back, with any buffers
pub data Pieces {C : Type 0} (to_come : C → List ℕ) (w : ℕ) : C → List (List ℕ) → C → Type 0 where
  none : (c : C) → Pieces to_come w c [] c
  more : (c d e : C) (p : List ℕ) (ps : List (List ℕ)) (room : ℕ) → Piece to_come w c d p room → Pieces to_come w d ps e → Pieces to_come w c
      (p ∷ ps) e
