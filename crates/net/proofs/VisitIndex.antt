-- The only index of a block in an interval is what the search for it finds. Assumes nothing.
use mathlib.Core.Path.{◌≡◌, ap, ◌∙◌}
use mathlib.Core.Bool.{Bool, true}
use Prim.Native.Nat.{ℕ, ◌+◌, ◌-◌, ◌*◌, ◌^◌, ◌≤◌}
use native.Mathlib.Omega.{arith}
use borrow.Author.Tests.{eqb-true, eq-eqb}
use lib.Dec.{eqb}
use Rattle.ranges.specs.Unique.{Only}
use Rattle.ranges.specs.Search.{search}
use Rattle.ranges.proofs.Tests.{both_hold}
use Rattle.ranges.proofs.Search.{search-found, search_le}
use Rattle.net.specs.Sequence.{Sequence, column, row, VisitIn, lies}
use Rattle.net.specs.Query.{visit_index}

module _ (S : Sequence) (m a c r : ℕ) where
  pub lies-of : (i : ℕ) → column S a i ≡ c → row S (m - a) i ≡ r → lies S m a c r i ≡ true
  lies-of i p q = rw (eq-eqb (column S a i) c p) (eq-eqb (row S (m - a) i) r q)

  pub of-lies : (i : ℕ) → lies S m a c r i ≡ true → (column S a i ≡ c) × (row S (m - a) i ≡ r)
  of-lies i e =
      let (p, q) = both_hold (eqb (column S a i) c) (eqb (row S (m - a) i) r) e in
      (eqb-true (column S a i) c p, eqb-true (row S (m - a) i) r q)

  -- the only index of the block is what the search finds
  pub visit_index-only : (k i : ℕ) → Only (VisitIn S m a k c r) i → visit_index S m a k c r ≡ i
  unfolding visit_index
  visit_index-only k i one =
      let first = k * S.b ^ m in
      let test : ℕ → Bool = λ p. lies S m a c r (first + p) in
      let from = one.holds.in_block.from in
      let below = one.holds.in_block.below in
      let p : ℕ = i - first in
      let at : first + p ≡ i = omega arith in
      let hit : test p ≡ true = ap (lies S m a c r) at ∙ lies-of i one.holds.in_column one.holds.in_row in
      let q : ℕ = search (S.b ^ m) test in
      let low : q ≤ p = search_le (S.b ^ m) test p hit in
      let (x, y) = of-lies (first + q) ((search-found (S.b ^ m) test).holds (omega arith)) in
      one.only (first + q) (record { in_block = record { from = omega arith; below = omega arith }; in_column = x; in_row = y })
