-- The check shape by shape: how the shapes before which no determinant is 0 grow, and where a scan of them ends. Assumes nothing.
use mathlib.Core.Path.{◌≡◌}
use mathlib.Core.Logic.{◌⊎◌, inl, inr, ◌≢◌}
use Prim.Native.Nat.{ℕ, ◌+◌, ◌≤◌, ◌<◌}
use native.Mathlib.Omega.{arith}
use Rattle.ranges.proofs.Order.{lt_or_ge}
use Rattle.linear.specs.Prime.{Prime}
use Rattle.net.specs.Generators.{Generators, Valid}
use Rattle.net.specs.Sequence.{Least}
use Rattle.net.specs.Scrambling.{plain}
use Rattle.net.specs.Shape.{determinant}
use Rattle.net.specs.Check.{passed, first_bad, check, NoneBefore}
use Rattle.net.proofs.Least.{crowded-of-least, zero-of-crowded}
use Rattle.net.proofs.Check.{checked}

-- from one shape to the next: nothing is before (1, 0); then a rises by one, and after the last a of a size comes the next size
module _ (G : Generators) where
  pub scan_none : NoneBefore G 1 0
  scan_none n d p l (inl h) = absurd (omega arith)
  scan_none n d p l (inr (e, h)) = absurd (omega arith)

  pub scan_next : (m a : ℕ) → NoneBefore G m a → determinant G m a ≢ 0 → NoneBefore G m (a + 1)
  scan_next m a old here n d p l (inl h) = old n d p l (inl h)
  scan_next m a old here n d p l (inr (e, h)) = go (lt_or_ge d a)
    where
      go : (d < a) ⊎ (a ≤ d) → determinant G n d ≢ 0
      go (inl s) = old n d p l (inr (e, s))
      go (inr s) = let q : d ≡ a = omega arith in rw (e, q) here

  pub scan_row : (m a : ℕ) → m ≤ a → NoneBefore G m a → determinant G m a ≢ 0 → NoneBefore G (m + 1) 0
  scan_row m a last old here n d p l (inr (e, h)) = absurd (omega arith)
  scan_row m a last old here n d p l (inl h) = go (lt_or_ge n m)
    where
      go : (n < m) ⊎ (m ≤ n) → determinant G n d ≢ 0
      go (inl s) = old n d p l (inl s)
      go (inr s) = scan_next m a old here n d p l (inr (omega arith, omega arith))

-- ---- the end of a scan

module _ {G : Generators} (valid : Valid G) (prime : Prime G.b) (M : ℕ) (fits : M ≤ G.R) where
  -- all shapes up to the level are cleared, or the first that is not has a least j
  pub scan_all : (m a : ℕ) → M < m → NoneBefore G m a → check G M ≡ passed
  scan_all m a beyond none_before =
      (checked valid prime M fits).passed_iff.1 (record { nonzero = λ n d p h l. none_before n d p l (inl (omega arith)) })

  pub scan_stops : (m a j : ℕ) → 0 < m → m ≤ M → a ≤ m → NoneBefore G m a → Least (plain G) m a j → check G M ≡ first_bad m a j
  scan_stops m a j p h l none_before least =
      let z = zero-of-crowded (record { valid = valid; wide = l; fits = omega arith }) prime (crowded-of-least (plain G) m a j least) in
      ((checked valid prime M fits).first_bad_zero_iff m a j).1
      (record { positive = p; within = h; wide = l; zero = z; none_before = none_before }, least)
