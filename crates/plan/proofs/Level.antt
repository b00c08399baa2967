-- The level's test: two comparisons under one number. Assumes nothing.
use mathlib.Core.Path.{◌≡◌, sym, ap, ap₂}
use mathlib.Core.Bool.{Bool, true, false, ◌||◌}
use Prim.Native.Nat.{ℕ, ◌≤◌, ◌<◌}
use borrow.Author.Tests.{lt-ltb, le-ltb, ltb-false}
use lib.Dec.{ltb}
use Rattle.ranges.proofs.Tests.{neither_holds}
use Rattle.plan.specs.Pair.{largest_level, unknown_level, Level}

module _ (level : ℕ) where
  pub level_low : level < 1 → (unknown_level level).holds ≡ true
  level_low h = ap (λ (b : Bool). b || ltb largest_level level) (lt-ltb level 1 h)

  -- from 1 on the second comparison decides
  pub level_high : 1 ≤ level → ltb largest_level level ≡ (unknown_level level).holds
  level_high l = sym (ap (λ (b : Bool). b || ltb largest_level level) (le-ltb level 1 l))

  pub level_known : Level level → (unknown_level level).holds ≡ false
  level_known known = ap₂ ◌||◌ (le-ltb level 1 known.positive) (le-ltb largest_level level known.not_above)

  -- and back
  pub level_of : (unknown_level level).holds ≡ false → Level level
  level_of h =
      let (low, high) = neither_holds (ltb level 1) (ltb largest_level level) h in
      record { positive = ltb-false level 1 low; not_above = ltb-false largest_level level high }
