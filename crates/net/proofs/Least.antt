-- One shape: where its determinant is 0, the search finds the least index that shares the interval of index 0. Assumes nothing.
use mathlib.Core.Path.{◌≡◌, refl}
use mathlib.Core.Logic.{◌⊎◌, inl, inr, ◌≢◌}
use mathlib.Core.Bool.{Bool, true}
use Prim.Native.Nat.{ℕ, zero, suc, ◌-◌, ◌^◌, ◌≤◌, ◌<◌}
use native.Mathlib.Nat.{pow-zero}
use native.Mathlib.Omega.{arith}
use Rattle.ranges.specs.Search.{search}
use Rattle.ranges.proofs.Order.{lt_or_ge, eq_or_ne}
use Rattle.ranges.proofs.Search.{search-found, clash}
use Rattle.linear.specs.Prime.{Prime}
use Rattle.net.specs.Generators.{Generators}
use Rattle.net.specs.Sequence.{Sequence, column, row, Share, Apart, Crowded, Least, lies}
use Rattle.net.specs.Scrambling.{plain}
use Rattle.net.specs.Shape.{Shape, determinant}
use Rattle.net.specs.Check.{least_index}
use Rattle.net.proofs.Shape.{alone_iff, apart_iff}
use Rattle.net.proofs.VisitIndex.{lies-of, of-lies}

pub least-unique : (S : Sequence) (m a i j : ℕ) → Least S m a i → Least S m a j → i ≡ j
least-unique S m a i j I J = omega (arith, I.least j J.positive J.shares, J.least i I.positive I.shares)

-- j and 0
pub crowded-of-least : (S : Sequence) (m a j : ℕ) → Least S m a j → Crowded S m a
crowded-of-least S m a j L = record {
  i = j;
  j = 0;
  i_below = L.below;
  j_below = let h = L.below in omega arith;
  differ = let h = L.positive in omega arith;
  share = L.shares;
}

-- below b ^ 0
pub one_index : (S : Sequence) (a : ℕ) → Apart S 0 a
one_index S a i j hi hj s = omega (arith, rw pow-zero at hi, rw pow-zero at hj)

pub crowded_not_apart : (S : Sequence) (m a : ℕ) → Crowded S m a → Apart S m a → ⊥
crowded_not_apart S m a C apart = C.differ (apart C.i C.j C.i_below C.j_below C.share)

module _ {G : Generators} {m a : ℕ} (shape : Shape G m a) (prime : Prime G.b) where
  open G use {b}

  -- the test of the search for j
  abbrev shares : ℕ → Bool
  shares i = lies (plain G) m a (column (plain G) a 0) (row (plain G) (m - a) 0) (suc i)

  test-of-share : (i : ℕ) → Share (plain G) m a (suc i) 0 → shares i ≡ true
  test-of-share i s = lies-of (plain G) m a (column (plain G) a 0) (row (plain G) (m - a) 0) (suc i) s.one_column s.one_row

  share-of-test : (i : ℕ) → shares i ≡ true → Share (plain G) m a (suc i) 0
  share-of-test i e =
      let (c, r) = of-lies (plain G) m a (column (plain G) a 0) (row (plain G) (m - a) 0) (suc i) e in
      record { one_column = c; one_row = r }

  pub least_index-least : determinant G m a ≡ 0 → Least (plain G) m a (least_index (plain G) m a)
  unfolding least_index
  least_index-least z = go (lt_or_ge k (b ^ m - 1))
    where
      k : ℕ
      k = search (b ^ m - 1) shares

      above : (i : ℕ) → 0 < i → Share (plain G) m a i 0 → suc k ≤ i
      above zero h s = absurd (omega arith)
      above (suc i) h s = more (lt_or_ge i k)
        where
          more : (i < k) ⊎ (k ≤ i) → suc k ≤ suc i
          more (inl l) = absurd (clash (test-of-share i s) ((search-found (b ^ m - 1) shares).least i l))
          more (inr l) = omega arith

      alone : b ^ m - 1 ≤ k → (i : ℕ) → i < b ^ m → Share (plain G) m a i 0 → i ≡ 0
      alone l zero h s = refl
      alone l (suc i) h s = absurd (clash (test-of-share i s) ((search-found (b ^ m - 1) shares).least i (omega arith)))

      go : (k < b ^ m - 1) ⊎ (b ^ m - 1 ≤ k) → Least (plain G) m a (suc k)
      go (inl l) =
          record { positive = omega arith; below = omega arith; shares = share-of-test k ((search-found (b ^ m - 1) shares).holds l); least = above }
      go (inr l) = absurd ((alone_iff shape prime).1 (alone l) z)

  pub zero-of-crowded : Crowded (plain G) m a → determinant G m a ≡ 0
  zero-of-crowded crowd = go (eq_or_ne (determinant G m a) 0)
    where
      go : (determinant G m a ≡ 0) ⊎ (determinant G m a ≢ 0) → determinant G m a ≡ 0
      go (inl z) = z
      go (inr ne) = absurd (crowded_not_apart (plain G) m a crowd ((apart_iff shape prime).0 ne))
