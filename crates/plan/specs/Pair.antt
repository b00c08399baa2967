-- Plans: their generator matrices, what follows the products, their sequences, levels, the standard pair, and loading from words.
use Rattle.std.specs.Prelude.{not, ◌||◌, List, [], ◌∷◌, ℕ, ◌+◌, ◌≤◌, eqb, ltb, length, take, drop, replicate}
use Rattle.net.specs.Generators.{Generators}
use Rattle.net.specs.Sequence.{Sequence}
use Rattle.net.specs.Scrambling.{Scrambling, digital}
use Rattle.refusal.specs.Outcome.{Outcome, accepted, Test, first, granted}
use Rattle.word.specs.Index.{index_bits}
use Rattle.word.specs.Matrices.{pair, standard_matrices}
use Rattle.flips.specs.Scramble.{scramble_word, unscramble_word}
use Rattle.flips.specs.Load.{flips_of, no_flips, flips_tests, flips_loaded}
use Rattle.plan.specs.declared.pair.Plan.{Plan}
use Rattle.plan.specs.declared.points.Shift.{Shift}
use Rattle.plan.specs.declared.points.Scramble.{Scramble}
use Rattle.plan.specs.declared.points.LentScramble.{LentScramble}
use Rattle.plan.specs.declared.points.Point.{Point}

-- the generator matrices of a plan
abbrev pub generators : Plan → Generators
generators P = pair P.x P.y

-- what follows the product: the flips of each axis (C-16), and then its digital shift (01: scramble)
abbrev pub scrambling : Scramble → Scrambling
scrambling s = record { x = scramble_word s.flips.x s.shift.x; y = scramble_word s.flips.y s.shift.y }

-- and what undoes it: the shift is taken first, then the flips
abbrev pub unscrambling : Scramble → Scrambling
unscrambling s = record { x = unscramble_word s.flips.x s.shift.x; y = unscramble_word s.flips.y s.shift.y }

-- a shift with the bytes of flips
abbrev pub scramble_of : Shift → List ℕ → List ℕ → Scramble
scramble_of s flips-x flips-y = record { shift = s; flips = flips_of flips-x flips-y }

-- the one that the code is lent; what is loaded of it, without flips where they are refused; and what loading it comes to
abbrev pub scramble_lent : LentScramble → Scramble
scramble_lent s = scramble_of s.shift s.flips_x.now s.flips_y.now

abbrev pub scramble_loaded : Scramble → Scramble
scramble_loaded s = record { shift = s.shift; flips = flips_loaded s.flips }

abbrev pub scramble_load_outcome : Scramble → Outcome Scramble
scramble_load_outcome s = first (flips_tests s.flips) (accepted s)

-- a shift without flips
abbrev pub only_shift : Shift → Scramble
only_shift s = record { shift = s; flips = no_flips }

-- the points of a plan under flips and a shift
abbrev pub sequence : Plan → Scramble → Sequence
sequence P s = digital (generators P) (scrambling s)

-- the code's point as two numbers
abbrev pub of_point : Point → ℕ × ℕ
of_point p = (p.x, p.y)

-- ---- levels

-- the largest level
abbrev pub largest_level : ℕ
largest_level = 32

-- 2: the level is not 1 to the largest
abbrev pub unknown_level : ℕ → Test
unknown_level level = record { number = 2; holds = ltb level 1 || ltb largest_level level }

-- and what it lets through
pub record Level (level : ℕ) : Type 0 where
  pub positive : 1 ≤ level
  pub not_above : level ≤ largest_level

-- ---- the standard pair

-- a plan of given matrices
abbrev pub of_matrices : Generators → Plan
of_matrices G = record { x = G.X; y = G.Y }

-- identity and Pascal's triangle modulo 2
abbrev pub standard_pair : Plan
standard_pair = of_matrices standard_matrices

-- ---- matrices from words

-- 1: not 64 words, one for each column of both matrices
abbrev pub not_a_pair : List ℕ → Test
not_a_pair words = record { number = 1; holds = not (eqb (length words) (index_bits + index_bits)) }

-- what loading words comes to
abbrev pub load_outcome : List ℕ → Outcome Unit
load_outcome words = first (not_a_pair words ∷ []) (accepted tt)

-- the matrices loaded, the columns of X first; of words that are refused every column is 0
abbrev pub loaded : List ℕ → Plan
loaded words =
    granted (load_outcome words)
    (record { x = take index_bits words; y = drop index_bits words })
    (record { x = replicate index_bits 0; y = replicate index_bits 0 })

-- and loading hands them out
abbrev pub plan_load_outcome : List ℕ → Outcome Plan
plan_load_outcome words = first (not_a_pair words ∷ []) (accepted (loaded words))
