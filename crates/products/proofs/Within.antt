-- A buffer that would go past the last index is left alone, and every other one is filled. Assumes nothing.
use mathlib.Core.Path.{◌≡◌, ap}
use mathlib.Core.Bool.{Bool, true, false, cond}
use mathlib.Core.List.{List, map}
use Prim.Native.Nat.{ℕ}
use lib.ListN.{length}
use Rattle.ranges.specs.Range.{range}
use Rattle.word.specs.Index.{index_count, goes_past}
use Rattle.products.specs.Products.{indexes_filled}

module _ (f : ℕ → ℕ) (start : ℕ) (old : List ℕ) where
  pub filled_past : goes_past index_count start (length old) ≡ true → indexes_filled f start old ≡ old
  filled_past e = ap (λ (b : Bool). cond b old (map f (range start (length old)))) e

  pub filled_within : goes_past index_count start (length old) ≡ false → indexes_filled f start old ≡ map f (range start (length old))
  filled_within e = ap (λ (b : Bool). cond b old (map f (range start (length old)))) e
