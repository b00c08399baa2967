-- The determinant vanishes where two columns are equal.
-- The idea: of two equal neighbours k and k + 1 the terms of the expansion cancel, and every other minor has two equal neighbours
-- again (`adjacent`). Equal columns that are further apart become neighbours by exchanges of neighbours, each of which changes the
-- sign only (`swap_where`, `apart`). Assumes nothing.
use mathlib.Core.Path.{◌≡◌, refl, sym, ap, ap₂, ◌∙◌, subst}
use mathlib.Core.Logic.{◌⊎◌, inl, inr, ◌≢◌}
use Prim.Native.Nat.{ℕ, zero, suc, pred, ◌+◌, ◌-◌, ◌*◌, ◌^◌, ◌≤◌, ◌<◌, ◌∣◌}
use native.Mathlib.Nat.{dvd-add, dvd-add_iff_right, dvd-add_iff_left, dvd-mul_left_of_dvd, dvd-mul_left, pow-suc}
use native.Mathlib.Omega.{arith}
use borrow.Author.Tests.{eq-eqb, ne_eqb}
use Rattle.ranges.specs.Skip.{skip}
use Rattle.ranges.proofs.Order.{lt_or_ge, eq_or_ne}
use Rattle.ranges.proofs.Skip.{skip_below, skip_above}
use Rattle.linear.specs.Matrix.{Matrix, minor, set, with_column}
use Rattle.linear.proofs.Sum.{sum-pair}
use Rattle.linear.proofs.Expand.{expand, det_lin}

-- ---- a column replaced

pub set_at : (f : ℕ → ℕ) (k x : ℕ) → set f k x k ≡ x
unfolding set
set_at f k x = rw (eq-eqb k k refl, set) refl

pub set_off : (f : ℕ → ℕ) (k x c : ℕ) → c ≢ k → set f k x c ≡ f c
unfolding set
set_off f k x c ne = rw (ne_eqb c k ne, set) refl

pub put-at : (A : Matrix) (k : ℕ) (x : ℕ → ℕ) (r : ℕ) → with_column A k x r k ≡ x r
put-at A k x r = set_at (A r) k (x r)

pub put_off : (A : Matrix) (k : ℕ) (x : ℕ → ℕ) (r c : ℕ) → c ≢ k → with_column A k x r c ≡ A r c
put_off A k x r c ne = set_off (A r) k (x r) c ne

-- it is the one matrix with that column k and A's others
pub put_is : (A B : Matrix) (k : ℕ) (x : ℕ → ℕ) → ((r : ℕ) → B r k ≡ x r) → ((r c : ℕ) → c ≢ k → B r c ≡ A r c) → with_column A k x ≡ B
put_is A B k x at off = λ i r c. go r c (eq_or_ne c k) i
  where
    go : (r c : ℕ) → (c ≡ k) ⊎ (c ≢ k) → with_column A k x r c ≡ B r c
    go r c (inl e) = rw e (put-at A k x r ∙ sym (at r))
    go r c (inr ne) = put_off A k x r c ne ∙ sym (off r c ne)

pub put_same : (A : Matrix) (k : ℕ) → with_column A k (λ r. A r k) ≡ A
put_same A k = put_is A A k (λ r. A r k) (λ r. refl) (λ r c ne. refl)

pub put_comm : (A : Matrix) (k l : ℕ) (x y : ℕ → ℕ) → k ≢ l → with_column (with_column A k x) l y ≡ with_column (with_column A l y) k x
put_comm A k l x y ne = put_is (with_column A k x) (with_column (with_column A l y) k x) l y
    (λ r. put_off (with_column A l y) k x r l (λ q. ne (sym q)) ∙ put-at A l y r) (λ r c h. go r c h (eq_or_ne c k))
  where
    go : (r c : ℕ) → c ≢ l → (c ≡ k) ⊎ (c ≢ k) → with_column (with_column A l y) k x r c ≡ with_column A k x r c
    go r c h (inl e) = rw e (put-at (with_column A l y) k x r ∙ sym (put-at A k x r))
    go r c h (inr n) = put_off (with_column A l y) k x r c n ∙ put_off A l y r c h ∙ sym (put_off A k x r c n)

module _ (s : ℕ) where
  -- linear in the column k
  pub put_lin : (n k a b : ℕ) (A : Matrix) (x y : ℕ → ℕ) → k < n
      → expand s n (with_column A k (λ r. a * x r + b * y r)) ≡ a * expand s n (with_column A k x) + b * expand s n (with_column A k y)
  put_lin n k a b A x y h = det_lin s n k a b (with_column A k x) (with_column A k y) (with_column A k (λ r. a * x r + b * y r)) h
      (λ r. put-at A k (λ i. a * x i + b * y i) r ∙ sym (ap₂ (λ (u v : ℕ). a * u + b * v) (put-at A k x r) (put-at A k y r)))
      (λ r c ne. put_off A k (λ i. a * x i + b * y i) r c ne ∙ sym (put_off A k x r c ne))
      (λ r c ne. put_off A k (λ i. a * x i + b * y i) r c ne ∙ sym (put_off A k y r c ne))

  -- two equal neighbours
  pub adjacent : (n k : ℕ) (A : Matrix) → suc k < n → ((r : ℕ) → A r k ≡ A r (suc k)) → suc s ∣ expand s n A
  unfolding expand
  adjacent zero k A h e = absurd (omega arith)
  adjacent (suc n) k A h e =
      sum-pair (suc s) (suc n) k (λ j. s ^ j * A 0 j * expand s n (minor A j)) h
      (λ j l ne ne'. dvd-mul_left_of_dvd (suc s) (other j l ne ne' (lt_or_ge k j) (λ i hi q. adjacent n i (minor A j) hi q)) (s ^ j * A 0 j))
      pair
    where
      other : (j : ℕ) → j < suc n → j ≢ k → j ≢ suc k → (k < j) ⊎ (j ≤ k)
          → ((i : ℕ) → suc i < n → ((r : ℕ) → minor A j r i ≡ minor A j r (suc i)) → suc s ∣ expand s n (minor A j)) → suc s ∣ expand s n (minor A j)
      other j l ne ne' (inl b) ih = ih k (omega arith) (λ r. rw (skip_below j k b, skip_below j (suc k) (omega arith)) (e (suc r)))
      other j l ne ne' (inr b) ih =
          let u : skip j (pred k) ≡ k = skip_above j (pred k) (omega arith) ∙ omega arith in
          let v : skip j (suc (pred k)) ≡ suc k = skip_above j (suc (pred k)) (omega arith) ∙ omega arith in
          ih (pred k) (omega arith) (λ r. rw (u, v) (e (suc r)))

      alike : (r c : ℕ) → (c < k) ⊎ (k ≤ c) → (c ≡ k) ⊎ (c ≢ k) → minor A (suc k) r c ≡ minor A k r c
      alike r c (inl b) d = rw (skip_below k c b, skip_below (suc k) c (omega arith)) refl
      alike r c (inr b) (inl q) = rw (q, skip_above k k (omega arith), skip_below (suc k) k (omega arith)) (e (suc r))
      alike r c (inr b) (inr q) = rw (skip_above k c b, skip_above (suc k) c (omega arith)) refl

      minors : minor A (suc k) ≡ minor A k
      minors = λ i r c. alike r c (lt_or_ge c k) (eq_or_ne c k) i

      pair : suc s ∣ s ^ k * A 0 k * expand s n (minor A k) + s ^ suc k * A 0 (suc k) * expand s n (minor A (suc k))
      pair =
          rw (minors, ← (e 0), pow-suc s k)
          (subst (λ (x : ℕ). suc s ∣ x) (omega arith) (dvd-mul_left (suc s) (s ^ k * A 0 k * expand s n (minor A k))))

  -- Two columns change places: the two determinants add up to 0. It follows from linearity wherever a determinant with these two
  -- columns equal is 0: with x + y in both places, the mixed terms are what is left.
  swap_where : (n k l : ℕ) (A : Matrix) (x y : ℕ → ℕ) → k < n → l < n → k ≢ l
      → ((B : Matrix) → ((r : ℕ) → B r k ≡ B r l) → suc s ∣ expand s n B)
      → suc s ∣ expand s n (with_column (with_column A k x) l y) + expand s n (with_column (with_column A k y) l x)
  swap_where n k l A x y hk hl ne vanish =
      let z : ℕ → ℕ = λ r. 1 * x r + 1 * y r in
      let e : E z z ≡ (E x x + E y y) + (E x y + E y x) =
      left z ∙ ap₂ (λ (u v : ℕ). 1 * u + 1 * v) (right x) (right y) ∙ omega arith in
      (dvd-add_iff_right (suc s) (dvd-add (suc s) (diag x) (diag y))).1 (rw e at (diag z))
    where
      E : (ℕ → ℕ) → (ℕ → ℕ) → ℕ
      E u v = expand s n (with_column (with_column A k u) l v)

      right : (u : ℕ → ℕ) → E u (λ r. 1 * x r + 1 * y r) ≡ 1 * E u x + 1 * E u y
      right u = put_lin n l 1 1 (with_column A k u) x y hl

      flip : (u v : ℕ → ℕ) → with_column (with_column A k u) l v ≡ with_column (with_column A l v) k u
      flip u v = put_comm A k l u v ne

      left : (v : ℕ → ℕ) → E (λ r. 1 * x r + 1 * y r) v ≡ 1 * E x v + 1 * E y v
      left v = rw (flip (λ r. 1 * x r + 1 * y r) v, flip x v, flip y v) (put_lin n k 1 1 (with_column A l v) x y hk)

      diag : (u : ℕ → ℕ) → suc s ∣ E u u
      diag u = vanish (with_column (with_column A k u) l u) (λ r.
          put_off (with_column A k u) l u r k ne ∙ put-at A k u r ∙ sym (put-at (with_column A k u) l u r))

  -- two equal columns, g columns between them
  apart : (g n i k : ℕ) (A : Matrix) → k ≡ suc (g + i) → k < n → ((r : ℕ) → A r i ≡ A r k) → suc s ∣ expand s n A
  apart zero n i k A e h q = let f : k ≡ suc i = omega arith in adjacent n i A (omega arith) (λ r. rw f at (q r))
  apart (suc g) n i zero A e h q = absurd (omega arith)
  apart (suc g) n i (suc k) A e h q =
      let x : ℕ → ℕ = λ r. A r k in
      let y : ℕ → ℕ = λ r. A r (suc k) in
      let B = with_column (with_column A k y) (suc k) x in
      let ih = apart g n i k B (omega arith) (omega arith) (λ r.
      put_off (with_column A k y) (suc k) x r i (omega arith) ∙ put_off A k y r i (omega arith) ∙ q r
      ∙ sym (put_off (with_column A k y) (suc k) x r k (omega arith) ∙ put-at A k y r)) in
      let same : with_column (with_column A k x) (suc k) y ≡ A = ap (λ (M : Matrix). with_column M (suc k) y) (put_same A k) ∙ put_same A (suc k) in
      rw same at ((dvd-add_iff_left (suc s) ih).1
      (swap_where n k (suc k) A x y (omega arith) h (omega arith) (λ M. adjacent n k M h)))

  pub equal : (n i k : ℕ) (A : Matrix) → i < n → k < n → i ≢ k → ((r : ℕ) → A r i ≡ A r k) → suc s ∣ expand s n A
  equal n i k A hi hk ne q = go (lt_or_ge i k)
    where
      go : (i < k) ⊎ (k ≤ i) → suc s ∣ expand s n A
      go (inl l) = apart (k - suc i) n i k A (omega arith) hk q
      go (inr l) = apart (i - suc k) n k i A (omega arith) hi (λ r. sym (q r))

  pub swap : (n k l : ℕ) (A : Matrix) (x y : ℕ → ℕ) → k < n → l < n → k ≢ l
      → suc s ∣ expand s n (with_column (with_column A k x) l y) + expand s n (with_column (with_column A k y) l x)
  swap n k l A x y hk hl ne = swap_where n k l A x y hk hl ne (λ M. equal n k l M hk hl ne)
