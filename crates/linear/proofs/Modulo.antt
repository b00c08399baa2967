-- The theorems modulo p: linear and alternating columns, Cramer's rule, kernels. Assumes nothing.
use mathlib.Core.Path.{◌≡◌, refl, sym, ap, ◌∙◌}
use mathlib.Core.Logic.{◌⊎◌, inl, inr, ◌≢◌, ◌↔◌}
use Prim.Native.Nat.{ℕ, zero, suc, ◌+◌, ◌-◌, ◌*◌, ◌%◌, ◌^◌, ◌<◌, ◌∣◌}
use native.Mathlib.Nat.{mod-lt, mod-eq_of_lt, add-mod, mod-eq-zero_of_dvd, dvd_of_mod-eq-zero}
use native.Mathlib.Omega.{arith}
use Rattle.ranges.specs.Skip.{skip}
use Rattle.ranges.proofs.Order.{eq_or_ne}
use Rattle.ranges.proofs.Skip.{skip_lt}
use Rattle.digits.proofs.Remainder.{mul_mod, mul_cong, add_cong}
use Rattle.linear.specs.Prime.{Prime}
use Rattle.linear.specs.Matrix.{Matrix, sum, minor, det, image, with_column}
use Rattle.linear.specs.Solution.{Kernel, Trivial}
use Rattle.linear.proofs.Prime.{cancel}
use Rattle.linear.proofs.Expand.{expand}
use Rattle.linear.proofs.Columns.{put-at, put_off, put_lin, swap, equal}
use Rattle.linear.proofs.Cramer.{cramer}
use Rattle.linear.proofs.Kernel as K
use Rattle.linear.proofs.Kernel.{Null}

pub sum_cong : (p n : ℕ) (f g : ℕ → ℕ) → ((i : ℕ) → i < n → f i % p ≡ g i % p) → sum n f % p ≡ sum n g % p
unfolding sum
sum_cong p zero f g h = refl
sum_cong p (suc n) f g h = add_cong p (sum n f) (sum n g) (f n) (g n) (sum_cong p n f g (λ i l. h i (omega arith))) (h n (omega arith))

module _ {p : ℕ} (big : 1 < p) where
  -- the sign of the expansion, and p itself
  next : suc (p - 1) ≡ p
  next = omega arith

  -- the determinant is that of `expand`, reduced; and it depends only on the entries modulo p
  pub det_is : (n : ℕ) (A : Matrix) → det p n A ≡ expand (p - 1) n A % p
  unfolding det expand
  det_is zero A = sym (mod-eq_of_lt big)
  det_is (suc n) A = sum_cong p (suc n) (λ j. (p - 1) ^ j * A 0 j * det p n (minor A j)) (λ j. (p - 1) ^ j * A 0 j * expand (p - 1) n (minor A j))
      (λ j l. ap (λ (x : ℕ). (p - 1) ^ j * A 0 j * x % p) (det_is n (minor A j)) ∙ mul_mod p ((p - 1) ^ j * A 0 j) (expand (p - 1) n (minor A j)))

  pub det_lt : (n : ℕ) (A : Matrix) → det p n A < p
  det_lt n A = rw det_is (mod-lt (expand (p - 1) n A) (omega arith))

  pub det-mod : (n : ℕ) (A B : Matrix) → ((r c : ℕ) → r < n → c < n → A r c % p ≡ B r c % p) → det p n A ≡ det p n B
  unfolding det
  det-mod zero A B h = refl
  det-mod (suc n) A B h = sum_cong p (suc n) (λ j. (p - 1) ^ j * A 0 j * det p n (minor A j)) (λ j. (p - 1) ^ j * B 0 j * det p n (minor B j)) (λ j l.
      ap (λ (x : ℕ). (p - 1) ^ j * A 0 j * x % p)
      (det-mod n (minor A j) (minor B j) (λ r c hr hc. h (suc r) (skip j c) (omega arith) (skip_lt n j c hc)))
      ∙ mul_cong p ((p - 1) ^ j * A 0 j) ((p - 1) ^ j * B 0 j) (det p n (minor B j)) (det p n (minor B j))
      (mul_cong p ((p - 1) ^ j) ((p - 1) ^ j) (A 0 j) (B 0 j) refl (h 0 j (omega arith) l)) refl)

  zero→dvd : (n : ℕ) (A : Matrix) → det p n A ≡ 0 → suc (p - 1) ∣ expand (p - 1) n A
  zero→dvd n A e = rw next (dvd_of_mod-eq-zero p (sym (det_is n A) ∙ e))

  dvd→zero : (n : ℕ) (A : Matrix) → suc (p - 1) ∣ expand (p - 1) n A → det p n A ≡ 0
  dvd→zero n A d = det_is n A ∙ mod-eq-zero_of_dvd p (rw next at d)

  -- ---- the columns

  pub linear : (n k a b : ℕ) (A : Matrix) (x y : ℕ → ℕ) → k < n
      → det p n (with_column A k (λ r. a * x r + b * y r)) ≡ (a * det p n (with_column A k x) + b * det p n (with_column A k y)) % p
  linear n k a b A x y h =
      det_is n (with_column A k (λ r. a * x r + b * y r)) ∙ ap (λ (u : ℕ). u % p) (put_lin (p - 1) n k a b A x y h)
      ∙ add_cong p (a * X) (a * det p n (with_column A k x)) (b * Y) (b * det p n (with_column A k y))
      (rw (det_is n (with_column A k x)) (sym (mul_mod p a X))) (rw (det_is n (with_column A k y)) (sym (mul_mod p b Y)))
    where
      X : ℕ
      X = expand (p - 1) n (with_column A k x)

      Y : ℕ
      Y = expand (p - 1) n (with_column A k y)

  pub equal_columns : (n i k : ℕ) (A : Matrix) → i < n → k < n → i ≢ k → ((r : ℕ) → r < n → A r i % p ≡ A r k % p) → det p n A ≡ 0
  equal_columns n i k A hi hk ne e =
      det-mod n A B (λ r c hr hc. entry r c hr (eq_or_ne c k))
      ∙ dvd→zero n B (equal (p - 1) n i k B hi hk ne (λ r. put_off A k (λ q. A q i) r i ne ∙ sym (put-at A k (λ q. A q i) r)))
    where
      B : Matrix
      B = with_column A k (λ r. A r i)

      entry : (r c : ℕ) → r < n → (c ≡ k) ⊎ (c ≢ k) → A r c % p ≡ B r c % p
      entry r c hr (inl q) = rw (q, put-at A k (λ z. A z i) r) (sym (e r hr))
      entry r c hr (inr q) = rw (put_off A k (λ z. A z i) r c q) refl

  pub swapped : (n k l : ℕ) (A : Matrix) (x y : ℕ → ℕ) → k < n → l < n → k ≢ l
      → (det p n (with_column (with_column A k x) l y) + det p n (with_column (with_column A k y) l x)) % p ≡ 0
  swapped n k l A x y hk hl ne =
      rw (det_is n (with_column (with_column A k x) l y), det_is n (with_column (with_column A k y) l x))
      (sym (add-mod (expand (p - 1) n (with_column (with_column A k x) l y)) (expand (p - 1) n (with_column (with_column A k y) l x)) p)
      ∙ mod-eq-zero_of_dvd p (rw next at (swap (p - 1) n k l A x y hk hl ne)))

  -- ---- Cramer

  pub cramer_rule : (n k : ℕ) (A : Matrix) (v : ℕ → ℕ) → k < n → ((r : ℕ) → r < n → image p n A v r ≡ 0) → det p n A * v k % p ≡ 0
  cramer_rule n k A v h z =
      let d = cramer (p - 1) n k A v h (λ r hr. rw next (dvd_of_mod-eq-zero p (z r hr))) in
      ap (λ (x : ℕ). x * v k % p) (det_is n A) ∙ ap (λ (x : ℕ). x % p) (omega arith) ∙ mul_mod p (v k) (expand (p - 1) n A)
      ∙ mod-eq-zero_of_dvd p (rw next at d)

module _ {p : ℕ} (P : Prime p) where
  shifted : Prime (suc (p - 1))
  shifted = rw (next P.big) P

  reduce : (r n : ℕ) (A : Matrix) → Null (suc (p - 1)) r n A → Kernel p r n A
  reduce r n A N =
      let big = P.big in
      record {
        vector = λ c. N.vector c % p;
        digits = λ c. mod-lt (N.vector c) (omega arith);
        spot = N.spot;
        spot_below = N.spot_below;
        nonzero = λ e. N.nonzero (rw (next big) (dvd_of_mod-eq-zero p e));
        null = λ i l.
            sum_cong p n (λ c. A i c * (N.vector c % p)) (λ c. A i c * N.vector c) (λ c m. mul_mod p (A i c) (N.vector c))
            ∙ mod-eq-zero_of_dvd p (rw (next big) at (N.null i l));
      }

  -- ---- more columns than rows, or determinant 0

  pub more_columns : (r n : ℕ) (A : Matrix) → r < n → Kernel p r n A
  more_columns r n A h = reduce r n A (K.more_columns shifted r n A h)

  pub singular : (n : ℕ) (A : Matrix) → det p n A ≡ 0 → Kernel p n n A
  singular n A e = reduce n n A (K.singular shifted n A (zero→dvd P.big n A e))

  -- ---- the determinant is not 0 exactly if only 0 is sent to 0

  -- here v need not be of digits
  pub regular : (n : ℕ) (A : Matrix) → det p n A ≢ 0 → (v : ℕ → ℕ) → ((r : ℕ) → r < n → image p n A v r ≡ 0) → (k : ℕ) → k < n → v k % p ≡ 0
  regular n A ne v z k h =
      let big = P.big in
      mod-eq-zero_of_dvd p (cancel P (det p n A) (v k)
      (λ d. ne (sym (mod-eq_of_lt (det_lt big n A)) ∙ mod-eq-zero_of_dvd p d))
      (dvd_of_mod-eq-zero p (cramer_rule big n k A v h z)))

  pub nonzero_iff : (n : ℕ) (A : Matrix) → (det p n A ≢ 0) ↔ Trivial p n A
  nonzero_iff n A = (
    λ ne v digits z k h. sym (mod-eq_of_lt (digits k h)) ∙ regular n A ne v z k h,
    λ only e. let N = singular n A e in N.nonzero (only N.vector (λ c l. N.digits c) N.null N.spot N.spot_below),
  )
