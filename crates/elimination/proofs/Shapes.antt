-- What an elimination over the columns of a shape tells of the shape. Assumes nothing.
use mathlib.Core.Path.{◌≡◌, refl, sym, ap, ◌∙◌}
use mathlib.Core.Logic.{◌≢◌, ◌⊎◌, inl, inr}
use mathlib.Core.List.{List}
use Prim.Native.Nat.{ℕ, ◌+◌, ◌-◌, ◌*◌, ◌/◌, ◌^◌, ◌≤◌, ◌<◌}
use native.Mathlib.Omega.{arith}
use lib.ListN.{get_or}
use Rattle.ranges.proofs.Order.{lt_or_ge}
use Rattle.digits.proofs.Two.{one_lt_two}
use Rattle.linear.proofs.Prime.{two}
use Rattle.net.specs.Sequence.{Share, Alone, Apart, Least}
use Rattle.net.specs.Generators.{product}
use Rattle.net.specs.Scrambling.{plain}
use Rattle.net.specs.Shape.{Shape, determinant}
use Rattle.net.specs.Elimination.{serial, interval}
use Rattle.net.proofs.Interval.{interval-pow, interval_additive, interval_lt, interval-of-share, share-of-interval, interval-zero}
use Rattle.net.proofs.Shape.{apart_of_alone, alone_iff}
use Rattle.net.proofs.Units.{product_ext}
use Rattle.word.specs.Matrices.{pair}
use Rattle.elimination.specs.Elimination.{ShapeColumns, ShapeInverse, KernelIs, Inverts}

module _ {x y : List ℕ} {m a : ℕ} (shape : Shape (pair x y) m a) where
  -- the interval of a column's own index, as the code joins it
  pub interval-at : (c : ℕ)
      → interval (plain (pair x y)) m a (2 ^ c) ≡ get_or x c 0 / 2 ^ (32 - a) * 2 ^ (m - a) + get_or y c 0 / 2 ^ (32 - (m - a))
  unfolding serial
  interval-at = interval-pow shape

  -- columns that are the intervals of their own indexes are those of the shape
  pub columns-of-shape : (columns : List ℕ) → ((c : ℕ) → c < m → get_or columns c 0 ≡ interval (plain (pair x y)) m a (2 ^ c))
      → ShapeColumns (pair x y) m a columns
  columns-of-shape columns = product_ext one_lt_two (interval_additive shape) columns m

  module _ {columns : List ℕ} (are : ShapeColumns (pair x y) m a columns) {kernel : ℕ} (is : KernelIs columns m kernel) where
    -- the kernel is 01's j
    pub least-of_kernel : kernel ≢ 0 → Least (plain (pair x y)) m a kernel
    least-of_kernel ne =
        let (below, k) = is.least ne in
        record {
          positive = k.positive;
          below = below;
          shares = share-of-interval shape kernel 0 (sym (are kernel below) ∙ k.vanishes ∙ sym (interval-zero shape));
          least = λ i h s. go i h s (lt_or_ge i (2 ^ m));
        }
      where
        go : (i : ℕ) → 0 < i → Share (plain (pair x y)) m a i 0 → (i < 2 ^ m) ⊎ (2 ^ m ≤ i) → kernel ≤ i
        go i h s (inl l) = (is.least ne).1.least i h (are i l ∙ interval-of-share shape i 0 s ∙ interval-zero shape)
        go i h s (inr g) = let below = (is.least ne).0 in omega arith

    -- without a kernel index 0 shares its interval with no other
    alone_without_kernel : kernel ≡ 0 → Alone (plain (pair x y)) m a
    alone_without_kernel z i h s = is.none z i h (are i h ∙ interval-of-share shape i 0 s ∙ interval-zero shape)

    pub apart_without_kernel : kernel ≡ 0 → Apart (plain (pair x y)) m a
    apart_without_kernel z = apart_of_alone shape (alone_without_kernel z)

    pub determinant-nonzero : kernel ≡ 0 → determinant (pair x y) m a ≢ 0
    determinant-nonzero z = (alone_iff shape two).1 (alone_without_kernel z)

  -- the inverse of the columns
  pub inverse-of-shape : {columns : List ℕ} → ShapeColumns (pair x y) m a columns → {inverse : List ℕ} → Inverts columns m 0 inverse
      → ShapeInverse (pair x y) m a inverse
  inverse-of-shape are {inverse} inverts i h =
      ap (product 2 inverse) (sym (are i h)) ∙ inverts.back refl i h (rw (are i h) (interval_lt shape i))
