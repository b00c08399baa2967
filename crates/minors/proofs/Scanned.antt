-- The fast scan, one a after the other: what stands when a rows of X are reduced. Assumes nothing.
use mathlib.Core.Path.{◌≡◌, refl, sym, ap, subst, ◌∙◌}
use mathlib.Core.Logic.{◌⊎◌, inl, inr}
use mathlib.Core.List.{List}
use Prim.Native.Nat.{ℕ, suc, ◌+◌, ◌-◌, ◌≤◌, ◌<◌}
use native.Mathlib.Numerals.{add-one}
use native.Mathlib.Omega.{arith}
use borrow.Author.Tests.{lt-ltb, le-ltb}
use lib.ListN.{get_or}
use Rattle.ranges.proofs.Order.{lt_or_ge}
use Rattle.digits.specs.Digits.{digit}
use Rattle.linear.specs.Matrix.{Matrix}
use Rattle.net.specs.Generators.{entry}
use Rattle.net.specs.Shape.{matrix}
use Rattle.net.specs.Check.{NoneBefore}
use Rattle.word.specs.Matrices.{pair}
use Rattle.minors.specs.Minors.{AllCleared, Reduced, ReducedRows, Pivots, Reaches, FirstDoubt, AreRows}
use Rattle.minors.proofs.Pivots.{reduced-none, reduced-rows-next, pivots_next, pivots_nonzero, reduced-same, pivots_same}

-- ---- one a: from the words that its first a rows leave, the rows up to m are reduced, and the words in hand are what they leave

abbrev pub Going : List ℕ → ℕ → List ℕ → ℕ → Type 0
Going words a reduced m = (A : Matrix) → ReducedRows A a a words → Pivots A a → Pivots A m × ReducedRows A m a reduced

pub going_more : (words reduced out : List ℕ) (a m : ℕ) → Going words a reduced m → a ≤ m → m < 32 → digit 2 m (get_or reduced (m - a) 0) ≡ 1
    → AllCleared (get_or reduced (m - a) 0) m reduced out → Going words a out (m + 1)
going_more words reduced out a m going l h one all A L P =
    let (old, rest) = going A L P in
    let e : a + (m - a) ≡ m = omega arith in
    let by : Reduced A m m (get_or reduced (m - a) 0) = subst (λ (r : ℕ). Reduced A m r (get_or reduced (m - a) 0)) e (rest (m - a) (omega arith)) in
    rw (add-one m) (pivots_next (get_or reduced (m - a) 0) by one old, reduced-rows-next a reduced out by one all rest)

-- ---- all a

-- the matrix of a
abbrev M : List ℕ → List ℕ → ℕ → ℕ → ℕ → ℕ
M X Y = matrix (pair X Y)

module _ (X Y : List ℕ) where
  -- its rows of X and of Y
  x-row : (a r c : ℕ) → r < a → M X Y a r c ≡ entry 2 32 X r c
  unfolding matrix
  x-row a r c h = rw (lt-ltb r a h, matrix) refl

  y-row : (a t c : ℕ) → M X Y a (a + t) c ≡ entry 2 32 Y t c
  unfolding matrix
  y-row a t c =
      let e : a + t - a ≡ t = omega arith in
      let h : a ≤ a + t = omega arith in
      rw (le-ltb (a + t) a h, matrix) (ap (λ (r : ℕ). entry 2 32 Y r c) e)

  same-x : (a d r c : ℕ) → r < a → r < d → M X Y a r c ≡ M X Y d r c
  same-x a d r c h g = x-row a r c h ∙ sym (x-row d r c g)

-- the shape in doubt is one
pub first_doubt_within : (top at r a s : ℕ) → FirstDoubt top at r a s → a ≤ r → at ≤ top → s ≤ r
first_doubt_within top at r a s earlier l h = go (lt_or_ge r top)
  where
    go : (r < top) ⊎ (top ≤ r) → s ≤ r
    go (inl g) = let e = earlier.0 g in omega arith
    go (inr g) = let e = earlier.1 g in omega arith

-- a rows of X are reduced; x and y are what they leave of all rows; of each d below a the rows up to top are reduced, and of each d
-- below `at` the next row too
pub record Scanned (X Y : List ℕ) (a top at : ℕ) (x y : List ℕ) : Type 0 where
  pub pivots : Pivots (M X Y 32) a
  pub x-reduced : ReducedRows (M X Y 32) a 0 x
  pub y-reduced : ReducedRows (M X Y a) a a y
  pub done : (d : ℕ) → d < a → Pivots (M X Y d) top
  pub edge : (d : ℕ) → d < at → (top < 32) × Pivots (M X Y d) (top + 1)

module _ {X Y : List ℕ} where
  pub scanned_none : (x y : List ℕ) (top : ℕ) → AreRows X x → AreRows Y y → Scanned X Y 0 top 0 x y
  scanned_none x y top xs ys = record {
    pivots = λ k h. absurd (omega arith);
    x-reduced = λ t h.
        let e : 0 + t ≡ t = omega arith in
        reduced-none (0 + t) (get_or x t 0) (λ c l. xs t h c l ∙ sym (rw e (x-row X Y 32 t c h)));
    y-reduced = λ t h. reduced-none (0 + t) (get_or y t 0) (λ c l. ys t h c l ∙ sym (y-row X Y 0 t c));
    done = λ d h. absurd (omega arith);
    edge = λ d h. absurd (omega arith);
  }

  module _ {a top at : ℕ} {x y : List ℕ} (S : Scanned X Y a top at x y) where
    -- the shape of X alone
    own : a ≤ 32 → Pivots (M X Y a) a
    own fits = pivots_same (M X Y 32) (M X Y a) (λ i c h. same-x X Y 32 a i c (omega arith) h) S.pivots

    -- ---- the next a

    module _ (fits : a < 32) where
      by : Reduced (M X Y 32) a a (get_or x a 0)
      by = let e : 0 + a ≡ a = omega arith in subst (λ (r : ℕ). Reduced (M X Y 32) a r (get_or x a 0)) e (S.x-reduced a fits)

      -- the row of X and the rows of Y in its matrix
      next_by : Reduced (M X Y (suc a)) a a (get_or x a 0)
      next_by = reduced-same (M X Y 32) (M X Y (suc a)) a
          (λ i c h. same-x X Y 32 (suc a) i c (omega arith) (omega arith)) (λ c. same-x X Y 32 (suc a) a c fits (omega arith)) by

      next-y : ReducedRows (M X Y (suc a)) a (suc a) y
      next-y t h = reduced-same (M X Y a) (M X Y (suc a)) (suc a + t)
          (λ i c g. same-x X Y a (suc a) i c g (omega arith)) (λ c. y-row X Y a t c ∙ sym (y-row X Y (suc a) t c)) (S.y-reduced t h)

      pub scanned_next : {r s : ℕ} (x' y' : List ℕ) → top ≤ 32 → r ≤ top → Reaches y a r → FirstDoubt top at r a s → digit 2 a (get_or x a 0) ≡ 1
          → AllCleared (get_or x a 0) a x x' → AllCleared (get_or x a 0) a y y' → Scanned X Y (suc a) r s x' y'
      scanned_next {r} {s} x' y' small l reach earlier one xs ys = record {
        pivots = pivots_next (get_or x a 0) by one S.pivots;
        x-reduced = reduced-rows-next 0 x x' by one xs S.x-reduced;
        y-reduced = reduced-rows-next (suc a) y y' next_by one ys next-y;
        done = λ d h. done d h (lt_or_ge d a);
        edge = edge (lt_or_ge r top);
      }
        where
          done : (d : ℕ) → d < suc a → (d < a) ⊎ (a ≤ d) → Pivots (M X Y d) r
          done d h (inl g) = λ k q. S.done d g k (omega arith)
          done d h (inr g) = let e : d ≡ a = omega arith in rw e (reach (M X Y a) S.y-reduced (own (omega arith)))

          edge : (r < top) ⊎ (top ≤ r) → (d : ℕ) → d < s → (r < 32) × Pivots (M X Y d) (r + 1)
          edge (inl g) d h = let e = earlier.0 g in (omega arith, λ k q. S.done d (omega arith) k (omega arith))
          edge (inr g) d h =
              let e = earlier.1 g in
              let t : r ≡ top = omega arith in
              rw t (S.edge d (omega arith))

    -- ---- the shapes that are cleared

    -- where X's row leaves no one
    pub scanned_stops : a < top → top ≤ 32 → NoneBefore (pair X Y) (a + 1) a
    scanned_stops l small n d p w (inr (e, q)) = pivots_nonzero (omega arith) (λ k h. S.done d q k (omega arith))
    scanned_stops l small n d p w (inl h) = pivots_nonzero (omega arith) (go (lt_or_ge d a))
      where
        go : (d < a) ⊎ (a ≤ d) → Pivots (M X Y d) n
        go (inl g) k q = S.done d g k (omega arith)
        go (inr g) k q = let e : d ≡ a = omega arith in rw e (own (omega arith) k (omega arith))

    pub scanned_all : a ≤ 32 → top ≤ 32 → top ≤ a → NoneBefore (pair X Y) (top + 1) at
    scanned_all fits small l n d p w (inr (e, q)) = let (room, P) = S.edge d q in pivots_nonzero (omega arith) (λ k h. P k (omega arith))
    scanned_all fits small l n d p w (inl h) = pivots_nonzero (omega arith) (go (lt_or_ge d a))
      where
        go : (d < a) ⊎ (a ≤ d) → Pivots (M X Y d) n
        go (inl g) k q = S.done d g k (omega arith)
        go (inr g) k q = let e : d ≡ a = omega arith in rw e (own fits k (omega arith))
