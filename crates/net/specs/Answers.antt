-- Statements on what the check, the query and the elimination answer.
use Rattle.std.specs.Prelude.{◌≡◌, ◌≢◌, ◌↔◌, List, ℕ, ◌-◌, ◌^◌, ◌≤◌, ◌<◌}
use Rattle.ranges.specs.Unique.{Only}
use Rattle.net.specs.Generators.{Generators}
use Rattle.net.specs.Sequence.{VisitIn, Finds, Crowded, Least}
use Rattle.net.specs.Scrambling.{Scrambling, plain, digital, Lawful, RightInverse, prefix_before, shifted}
use Rattle.net.specs.Shape.{determinant, Passes}
use Rattle.net.specs.Check.{check, passed, first_bad, FirstCrowded, FirstZero}
use Rattle.net.specs.Query.{locate, found, bad_shape}
use Rattle.net.specs.Elimination.{BasisEntry, Eliminated, in_kernel, basis, basis_index}

-- The check passes exactly what passes, and names a bad shape exactly where a determinant of a size within the level is 0, exactly where
-- an interval of such a size holds two plain visits. The shape that it names is the first in both readings, and j the least.
pub record CheckDecides (G : Generators) (M : ℕ) : Type 0 where
  pub passed_iff : (check G M ≡ passed) ↔ Passes G M
  pub zero_iff : (check G M ≢ passed) ↔ ((m : ℕ) × (a : ℕ) × (0 < m) × (m ≤ M) × (a ≤ m) × (determinant G m a ≡ 0))
  pub crowded_iff : (check G M ≢ passed) ↔ ((m : ℕ) × (a : ℕ) × (m ≤ M) × (a ≤ m) × Crowded (plain G) m a)
  pub first_bad_iff : (m a j : ℕ) → (check G M ≡ first_bad m a j) ↔ (FirstCrowded G M m a × Least (plain G) m a j)
  pub first_bad_zero_iff : (m a j : ℕ) → (check G M ≡ first_bad m a j) ↔ (FirstZero G M m a × Least (plain G) m a j)

-- what a query's outcome means: found i exactly where the determinant is not 0 and i is the only index of the block in the interval; a
-- bad shape exactly where the determinant is 0, with the least j
pub record LocateDecides (G : Generators) (F : Scrambling) (m a k c r : ℕ) : Type 0 where
  pub found_iff : (i : ℕ) → (locate G F m a k c r ≡ found i) ↔ ((determinant G m a ≢ 0) × Only (VisitIn (digital G F) m a k c r) i)
  pub bad_shape_iff : (j : ℕ) → (locate G F m a k c r ≡ bad_shape j) ↔ ((determinant G m a ≡ 0) × Least (plain G) m a j)

-- a basis that answers every query of the shape; under a lawful scrambling F that B undoes it is asked for the plain interval to which B leads back
pub record Solved (G : Generators) (m a : ℕ) (fs : List BasisEntry) : Type 0 where
  pub nonzero : determinant G m a ≢ 0
  pub answers_shifted : (s t : ℕ) → s < G.b ^ G.R → t < G.b ^ G.R
      → (k : ℕ) → Finds (shifted G s t) m a k (basis_index G (shifted G s t) fs m a k)
  pub answers_plain : (k : ℕ) → Finds (plain G) m a k (basis_index G (plain G) fs m a k)
  pub answers_scrambled : (F B : Scrambling) → Lawful G.b G.R F
      → RightInverse G.b G.R F.x B.x → RightInverse G.b G.R F.y B.y → (k : ℕ)
      → Finds (digital G F) m a k (λ c r. basis_index G (plain G) fs m a k
      (prefix_before G.b G.R B.x a c) (prefix_before G.b G.R B.y (m - a) r))

-- the shape is bad, and j is 01's
pub record Unsolved (G : Generators) (m a j : ℕ) : Type 0 where
  pub zero : determinant G m a ≡ 0
  pub least : Least (plain G) m a j

-- what an outcome of elimination means
abbrev pub Decided : Generators → ℕ → ℕ → Eliminated → Type 0
Decided G m a (in_kernel j) = Unsolved G m a j
Decided G m a (basis fs) = Solved G m a fs
