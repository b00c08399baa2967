-- Cells of an overview: their tests as lists, and one product with the columns of the inverse for each. Assumes nothing.
use mathlib.Core.Path.{◌≡◌, refl, sym, ap, ap₂, ◌∙◌}
use mathlib.Core.Bool.{false, ◌||◌}
use mathlib.Core.List.{List, [], ◌∷◌, map}
use Prim.Native.Nat.{ℕ, zero, suc, ◌+◌, ◌-◌, ◌*◌, ◌^◌, ◌≤◌, ◌<◌}
use native.Mathlib.Omega.{arith}
use borrow.Author.Tests.{leb-false}
use lib.Bits.{bit_xor}
use lib.Dec.{leb}
use lib.ListN.{length, get_or, drop, length-map, drop_of_length-le}
use lib.Pow.{pow_pos}
use lib.Seq.{drop-cons, ext_get_or}
use Rattle.ranges.specs.Unique.{Only}
use Rattle.ranges.proofs.Mapped.{map_at}
use Rattle.ranges.proofs.Tests.{neither_holds}
use Rattle.digits.specs.Digits.{plus}
use Rattle.digits.proofs.Arithmetic.{plus_assoc, plus_comm, plus_split, zero-plus}
use Rattle.digits.proofs.Two.{one_lt_two, plus-two}
use Rattle.net.specs.Generators.{product}
use Rattle.net.specs.Sequence.{Sequence, VisitIn}
use Rattle.net.specs.Scrambling.{plain, digital}
use Rattle.net.specs.Shape.{Shape}
use Rattle.net.specs.Query.{visit_index}
use Rattle.net.specs.Elimination.{serial, interval, plain_interval}
use Rattle.net.proofs.Interval.{block_lt}
use Rattle.net.proofs.Product.{product-plus}
use Rattle.net.proofs.VisitIndex.{visit_index-only}
use Rattle.net.proofs.Basis.{inverse-plain, inverse-scrambled}
use Rattle.word.specs.Matrices.{pair}
use Rattle.plan.specs.declared.points.Scramble.{Scramble}
use Rattle.plan.specs.Pair.{scrambling}
use Rattle.elimination.specs.Elimination.{ShapeInverse}
use Rattle.stratify.specs.Answers.{not_a_cell, ShiftFits}
use Rattle.stratify.specs.Strips.{plain_column, plain_row, plain_number}
use Rattle.stratify.specs.Overview.{some_outside, others_outside, AllInside, visit_indexes}
use Rattle.stratify.proofs.LedBack.{lawful, undone-x, undone-y, number_less, row_before}

-- ---- cells outside

module _ (m a : ℕ) where
  -- one cell more, as a loop over the lists meets it
  pub outside-more : (cs rs : List ℕ) (i : ℕ) → i < length cs → length cs ≡ length rs
      → some_outside m a (drop i cs) (drop i rs)
      ≡ ((not_a_cell 2 m a (get_or cs i 0) (get_or rs i 0)).holds || some_outside m a (drop (suc i) cs) (drop (suc i) rs))
  unfolding some_outside
  outside-more cs rs i h e = ap₂ (some_outside m a) (drop-cons cs i 0 h) (drop-cons rs i 0 (omega arith))

  pub outside_past : (cs rs : List ℕ) (i : ℕ) → length cs ≤ i → some_outside m a (drop i cs) (drop i rs) ≡ false
  unfolding some_outside
  outside_past cs rs i h = ap (λ (l : List ℕ). some_outside m a l (drop i rs)) (drop_of_length-le cs h)

  -- no cell outside
  all_inside : (cs rs : List ℕ) → length cs ≡ length rs → some_outside m a cs rs ≡ false → AllInside m a cs rs
  unfolding some_outside
  all_inside [] rs e h i l = absurd (omega arith)
  all_inside (c ∷ cs) [] e h i l = absurd (omega arith)
  all_inside (c ∷ cs) (r ∷ rs) e h zero l =
      let p = neither_holds (not_a_cell 2 m a c r).holds (some_outside m a cs rs) h in
      let q = neither_holds (leb (2 ^ a) c) (leb (2 ^ (m - a)) r) p.0 in
      (leb-false _ _ q.0, leb-false _ _ q.1)
  all_inside (c ∷ cs) (r ∷ rs) e h (suc i) l =
      let p = neither_holds (not_a_cell 2 m a c r).holds (some_outside m a cs rs) h in
      all_inside cs rs (omega arith) p.1 i (omega arith)

  -- the first cell inside, and none of the others outside
  pub inside : (cs rs : List ℕ) → length cs ≡ length rs → (not_a_cell 2 m a (get_or cs 0 0) (get_or rs 0 0)).holds ≡ false
      → (others_outside m a cs rs).holds ≡ false → AllInside m a cs rs
  unfolding some_outside
  inside [] rs e f h = all_inside [] rs e refl
  inside (c ∷ cs) [] e f h = absurd (omega arith)
  inside (c ∷ cs) (r ∷ rs) e f h = all_inside (c ∷ cs) (r ∷ rs) e (ap₂ ◌||◌ f h)

-- ---- the answers by place

module _ (S : Sequence) (m a k : ℕ) where
  length-visits : (cs rs : List ℕ) → length cs ≡ length rs → length (visit_indexes S m a k cs rs) ≡ length cs
  unfolding visit_indexes
  length-visits [] rs e = refl
  length-visits (c ∷ cs) [] e = absurd (omega arith)
  length-visits (c ∷ cs) (r ∷ rs) e = ap suc (length-visits cs rs (omega arith))

  visit_at : (cs rs : List ℕ) → length cs ≡ length rs → (i : ℕ) → i < length cs
      → get_or (visit_indexes S m a k cs rs) i 0 ≡ visit_index S m a k (get_or cs i 0) (get_or rs i 0)
  unfolding visit_indexes
  visit_at [] rs e i l = absurd (omega arith)
  visit_at (c ∷ cs) [] e i l = absurd (omega arith)
  visit_at (c ∷ cs) (r ∷ rs) e zero l = refl
  visit_at (c ∷ cs) (r ∷ rs) e (suc i) l = visit_at cs rs (omega arith) i (omega arith)

  -- the answers that are made of numbers, where each is that of its cell
  pub mapped_are : (cs rs numbers : List ℕ) (f : ℕ → ℕ) → length cs ≡ length rs → length numbers ≡ length cs
      → ((i : ℕ) → i < length cs → f (get_or numbers i 0) ≡ visit_index S m a k (get_or cs i 0) (get_or rs i 0))
      → map f numbers ≡ visit_indexes S m a k cs rs
  mapped_are cs rs numbers f e many each =
      let long : length (map f numbers) ≡ length cs = length-map numbers f ∙ many in
      ext_get_or 0 (map f numbers) _ (long ∙ sym (length-visits cs rs e))
      (λ i h.
      let inside : i < length cs = omega (arith, long) in
      map_at 0 f numbers i (omega (arith, many)) ∙ each i inside ∙ sym (visit_at cs rs e i inside))

-- ---- one product a cell

module _ {x y : List ℕ} {m a : ℕ} (shape : Shape (pair x y) m a) (s : Scramble) (fits : ShiftFits s.shift) (k : ℕ)
    (inverse : List ℕ) (back : ShapeInverse (pair x y) m a inverse) where
  -- the number of the plain cell that answers for a cell
  abbrev number : ℕ → ℕ → ℕ
  number c r = plain_interval (plain (pair x y)) m a k (plain_column s a c) (plain_row s m a r)

  -- the answer is the product with it
  only : (c r : ℕ) → c < 2 ^ a → r < 2 ^ (m - a)
      → Only (VisitIn (digital (pair x y) (scrambling s)) m a k c r) (k * 2 ^ m + product 2 inverse (number c r))
  only = inverse-scrambled shape (product 2 inverse) back (lawful s fits) (undone-x s fits) (undone-y s fits) k

  product-below : (c r : ℕ) → c < 2 ^ a → r < 2 ^ (m - a) → product 2 inverse (number c r) < 2 ^ m
  product-below c r hc hr = let below = (only c r hc hr).holds.in_block.below in omega arith

  -- the cell of the block's first visit, whose index is 0 in the block
  abbrev pub first : ℕ
  first = interval (plain (pair x y)) m a (k * 2 ^ m)

  first_below : product 2 inverse first < 2 ^ m
  unfolding serial
  first_below =
      let none : 0 * 2 ^ (m - a) + 0 ≡ 0 = omega arith in
      let is : plain_interval (plain (pair x y)) m a k 0 0 ≡ first = sym (number_less shape k 0 0 (pow_pos (m - a)))
      ∙ ap (λ (n : ℕ). bit_xor n first) none ∙ sym (plus-two 0 first) ∙ zero-plus one_lt_two first in
      let below = (inverse-plain shape (product 2 inverse) back k 0 0 (pow_pos a) (pow_pos (m - a))).holds.in_block.below in
      omega (arith, ap (product 2 inverse) is)

  -- what the block adds for all cells
  pub base_lt : k < 2 ^ (32 - m) → k * 2 ^ m + product 2 inverse first < 2 ^ 32
  base_lt hk = block_lt one_lt_two 32 m k (product 2 inverse first) shape.fits hk first_below

  pub answered : (c r base : ℕ) → c < 2 ^ a → r < 2 ^ (m - a) → base ≡ k * 2 ^ m + product 2 inverse first
      → bit_xor base (product 2 inverse (plain_number s m a c r)) ≡ visit_index (digital (pair x y) (scrambling s)) m a k c r
  answered c r base hc hr e =
      let p = product 2 inverse (plain_number s m a c r) in
      let q = product 2 inverse first in
      let n = product 2 inverse (number c r) in
      let begins = k * 2 ^ m in
      sym (plus-two base p)
      ∙ ap (λ (z : ℕ). plus 2 z p) (e ∙ sym (plus_split one_lt_two m k q first_below))
      ∙ plus_assoc one_lt_two begins q p
      ∙ ap (plus 2 begins) (plus_comm one_lt_two q p ∙ sym (product-plus one_lt_two inverse (plain_number s m a c r) first)
      ∙ ap (product 2 inverse) (plus-two (plain_number s m a c r) first ∙ number_less shape k _ _ (row_before shape s fits r hr)))
      ∙ plus_split one_lt_two m k n (product-below c r hc hr)
      ∙ sym (visit_index-only (digital (pair x y) (scrambling s)) m a c r k (begins + n) (only c r hc hr))
