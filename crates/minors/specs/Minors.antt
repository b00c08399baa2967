-- What the functions of the fast scan promise one another. A row of a matrix is a word, bit c of which is the entry in column c, and rows
-- are reduced by the rows above them. Other crates cite only `Starts`.
use Rattle.std.specs.Prelude.{◌≡◌, List, ℕ, ◌+◌, ◌*◌, ◌%◌, ◌≤◌, ◌<◌, get_or}
use Rattle.std.specs.Int.Bits.{bit_xor}
use Rattle.digits.specs.Digits.{digit}
use Rattle.linear.specs.Matrix.{Matrix, sum, image}
use Rattle.net.specs.Generators.{Generators, entry}
use Rattle.net.specs.Check.{NoneBefore}

-- the first l bits of a word times a vector, modulo 2
abbrev pub word_times : ℕ → ℕ → (ℕ → ℕ) → ℕ
word_times l w v = sum l (λ c. digit 2 c w * v c) % 2

-- a word with its bit c cleared by another
abbrev pub bit_cleared : ℕ → ℕ → ℕ → ℕ
bit_cleared by c w = bit_xor w (by * digit 2 c w)

-- the same of each of 32 words
abbrev pub AllCleared : ℕ → ℕ → List ℕ → List ℕ → Type 0
AllCleared by c words out = (t : ℕ) → t < 32 → get_or out t 0 ≡ bit_cleared by c (get_or words t 0)

-- The word w is row r of A reduced by the first n rows: its lowest n bits are 0, and its product with a vector is 0 wherever the products of
-- these rows and of row r are.
pub record Reduced (A : Matrix) (n r w : ℕ) : Type 0 where
  pub low : (c : ℕ) → c < n → digit 2 c w ≡ 0
  pub follows : (l : ℕ) (v : ℕ → ℕ) → l ≤ 32 → ((i : ℕ) → i < n → image 2 l A v i ≡ 0) → image 2 l A v r ≡ 0 → word_times l w v ≡ 0

-- 32 words are the rows s, s + 1 and so on, reduced by the first n rows
abbrev pub ReducedRows : Matrix → ℕ → ℕ → List ℕ → Type 0
ReducedRows A n s words = (t : ℕ) → t < 32 → Reduced A n (s + t) (get_or words t 0)

-- row k, reduced by the rows above it, has a one on the diagonal
pub record Pivot (A : Matrix) (k : ℕ) : Type 0 where
  pub word : ℕ
  pub reduced : Reduced A k k word
  pub one : digit 2 k word ≡ 1

-- each of the first m rows has: then the leading minors up to m are odd
abbrev pub Pivots : Matrix → ℕ → Type 0
Pivots A m = (k : ℕ) → k < m → Pivot A k

-- where the words are rows a, a + 1 and so on of any matrix, reduced by its first a rows, and these have pivots, the first m rows have
abbrev pub Reaches : List ℕ → ℕ → ℕ → Type 0
Reaches words a m = (A : Matrix) → ReducedRows A a a words → Pivots A a → Pivots A m

-- s is a where the minors of a stopped at r below top, and else what it was, `at`
abbrev pub FirstDoubt : (top at r a s : ℕ) → Type 0
FirstDoubt top at r a s = (r < top → s ≡ a) × (top ≤ r → s ≡ at)

-- a check of the shapes up to a level may start at (m, a): no determinant before it is 0
pub record Starts (G : Generators) (level m a : ℕ) : Type 0 where
  pub positive : 0 < m
  pub wide : a ≤ m
  pub within : m ≤ level + 1
  pub none_before : NoneBefore G m a

-- the word w is row r of the matrix with the columns C
abbrev pub IsRow : List ℕ → ℕ → ℕ → Type 0
IsRow C r w = (c : ℕ) → c < 32 → digit 2 c w ≡ entry 2 32 C r c

-- the words are its 32 rows
abbrev pub AreRows : List ℕ → List ℕ → Type 0
AreRows C words = (r : ℕ) → r < 32 → IsRow C r (get_or words r 0)
