-- What is proved of matrices modulo a prime p. First the statements, as records; at the end `Theorems`,
-- the whole list with the assumption of each, of which proofs/Theorem gives one term.
use Rattle.std.specs.Prelude.{◌≡◌, ◌≢◌, ◌↔◌, ℕ, ◌+◌, ◌*◌, ◌%◌, ◌<◌}
use Rattle.ranges.specs.Unique.{One}
use Rattle.linear.specs.Prime.{Prime}
use Rattle.linear.specs.Matrix.{Matrix, det, with_column}
use Rattle.linear.specs.Solution.{Kernel, Trivial, Solves}

-- the determinant modulo p as a function of the columns, the kernel, and the systems that it decides
pub record DeterminantLaws (p : ℕ) : Type 0 where
  -- linear in each column, 0 where two columns are equal, of the other sign where two columns change places
  pub linear : (n k a b : ℕ) (A : Matrix) (x y : ℕ → ℕ) → k < n
      → det p n (with_column A k (λ r. a * x r + b * y r)) ≡ (a * det p n (with_column A k x) + b * det p n (with_column A k y)) % p
  pub alternating : (n i k : ℕ) (A : Matrix) → i < n → k < n → i ≢ k → ((r : ℕ) → r < n → A r i % p ≡ A r k % p) → det p n A ≡ 0
  pub swapped : (n k l : ℕ) (A : Matrix) (x y : ℕ → ℕ) → k < n → l < n → k ≢ l
      → (det p n (with_column (with_column A k x) l y) + det p n (with_column (with_column A k y) l x)) % p ≡ 0
  -- not 0 exactly where only 0 is sent to 0
  pub nonzero_iff : (n : ℕ) (A : Matrix) → (det p n A ≢ 0) ↔ Trivial p n A
  -- more columns than rows, or a square matrix with determinant 0
  pub more_columns : (r n : ℕ) (A : Matrix) → r < n → Kernel p r n A
  pub singular : (n : ℕ) (A : Matrix) → det p n A ≡ 0 → Kernel p n n A
  -- each right-hand side has exactly one solution
  pub solution : (n : ℕ) (A : Matrix) → det p n A ≢ 0 → (y : ℕ → ℕ) → ((r : ℕ) → r < n → y r < p) → One (Solves p n A y)

pub record Theorems : Type 0 where
  pub two : Prime 2
  pub three : Prime 3
  pub determinant : {p : ℕ} → Prime p → DeterminantLaws p
