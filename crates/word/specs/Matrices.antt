-- Generator matrices of words: base two, and 32 rows, one for each bit of a word.
use Rattle.std.specs.Prelude.{List, ℕ, min, length, replicate}
use Rattle.std.proofs.Math.Seq.{paste}
use Rattle.net.specs.Generators.{Generators}
use Rattle.net.specs.Standard.{standard}
use Rattle.word.specs.Index.{index_bits}

-- two lists of columns as generator matrices (01: the pair)
abbrev pub pair : List ℕ → List ℕ → Generators
pair x y = record { b = 2; R = 32; X = x; Y = y }

-- the columns that words hold: as many columns of 0 as a matrix has, and over them the words
abbrev pub columns_held : List ℕ → List ℕ
columns_held words = paste (replicate index_bits 0) 0 words (min (length words) index_bits)

-- identity and Pascal's triangle modulo 2, with a column for each bit of an index
abbrev pub standard_matrices : Generators
standard_matrices = standard 2 32 index_bits
