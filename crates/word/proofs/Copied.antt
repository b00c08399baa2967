-- A copy between slices of equal length gives the words that were copied. Assumes nothing.
use mathlib.Core.Path.{◌≡◌, sym, ap, ◌∙◌}
use mathlib.Core.List.{List, ◌++◌, append-nil}
use Prim.Native.Nat.{ℕ, ◌+◌, ◌≤◌, min}
use native.Mathlib.Omega.{arith}
use lib.ListN.{length, take, replicate, drop_of_length-le}
use lib.Seq.{paste, take_all}
use Rattle.word.specs.Index.{index_bits}
use Rattle.word.specs.Matrices.{columns_held}

pub copied_whole : (d s : List ℕ) → length d ≡ length s → paste d 0 s (min (length s) (length d)) ≡ s
copied_whole d s e =
    let n : min (length s) (length d) ≡ length s = omega arith in
    let past : length d ≤ 0 + length s = omega arith in
    ap (paste d 0 s) n
    ∙ ap (λ (r : List ℕ). take (length s) s ++ r) (drop_of_length-le d {i = 0 + length s} past)
    ∙ append-nil (take (length s) s)
    ∙ take_all (length s) s (omega arith)

-- so as many words as a matrix has columns are its columns
pub columns-whole : (words : List ℕ) → length words ≡ index_bits → columns_held words ≡ words
columns-whole words e = copied_whole (replicate index_bits 0) words (sym e)
