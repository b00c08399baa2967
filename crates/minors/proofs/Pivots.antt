-- Rows reduced by the rows above them: where each leaves a one on the diagonal, the determinant is not 0. Assumes nothing.
use mathlib.Core.Path.{◌≡◌, refl, sym, ap, ap₂, subst, ◌∙◌}
use mathlib.Core.Logic.{◌⊎◌, inl, inr, ◌≢◌}
use mathlib.Core.List.{List}
use Prim.Native.Nat.{ℕ, zero, suc, ◌+◌, ◌*◌, ◌/◌, ◌%◌, ◌≤◌, ◌<◌, ◌∣◌}
use native.Mathlib.Nat.{mul-zero, mul-one, dvd-zero, dvd_of_mod-eq-zero, mod-eq-zero_of_dvd}
use native.Mathlib.Omega.{arith}
use lib.Bits.{bit_xor}
use Rattle.ranges.proofs.Order.{lt_or_ge}
use Rattle.digits.specs.Digits.{digit}
use Rattle.digits.proofs.Digit.{digit_lt, digit_zero}
use Rattle.digits.proofs.Two.{one_lt_two, digit_xor}
use Rattle.linear.specs.Matrix.{Matrix, sum, image, det}
use Rattle.linear.specs.Solution.{Trivial}
use Rattle.linear.proofs.Prime.{two}
use Rattle.linear.proofs.Sum.{sum_ext, sum-at}
use Rattle.linear.proofs.Modulo.{nonzero_iff}
use Rattle.minors.specs.Minors.{word_times, bit_cleared, AllCleared, Reduced, ReducedRows, Pivot, Pivots}

-- ---- a word times a vector

both : (x y : ℕ) → (x % 2 + y % 2) % 2 ≡ (x + y) % 2
both x y = omega arith

plain : (s f u g t : ℕ) → s % 2 ≡ u % 2 → g ≡ t * 2 + f → (s + f) % 2 ≡ (u + g) % 2
plain s f u g t old here = omega arith

odd : (p q s d e f t : ℕ) → s % 2 ≡ (p % 2 + q % 2) % 2 → d + e ≡ t * 2 + f → (s + f) % 2 ≡ ((p + d) % 2 + (q + e) % 2) % 2
odd p q s d e f t old here =
    plain s f (p + q) (d + e) t (old ∙ both p q) here ∙ ap (λ (x : ℕ). x % 2) (omega arith) ∙ sym (both (p + d) (q + e))

parity : (p q s d e f x : ℕ) → s % 2 ≡ (p % 2 + q % 2) % 2 → f ≡ (d + e) % 2 → (s + f * x) % 2 ≡ ((p + d * x) % 2 + (q + e * x) % 2) % 2
parity p q s d e f x old here =
    let whole : d + e ≡ (d + e) / 2 * 2 + f = omega arith in
    let products : d * x + e * x ≡ (d + e) / 2 * x * 2 + f * x = omega (arith, ap (λ (y : ℕ). y * x) whole) in
    odd p q s (d * x) (e * x) (f * x) ((d + e) / 2 * x) old products

times_xor : (l w u : ℕ) (v : ℕ → ℕ) → word_times l (bit_xor w u) v ≡ (word_times l w v + word_times l u v) % 2
unfolding sum
times_xor zero w u v = refl
times_xor (suc l) w u v =
    parity (sum l (λ c. digit 2 c w * v c)) (sum l (λ c. digit 2 c u * v c)) (sum l (λ c. digit 2 c (bit_xor w u) * v c))
    (digit 2 l w) (digit 2 l u) (digit 2 l (bit_xor w u)) (v l) (times_xor l w u v) (digit_xor w u l)

times_none : (l : ℕ) (v : ℕ → ℕ) → word_times l 0 v ≡ 0
unfolding sum
times_none zero v = refl
times_none (suc l) v = omega (arith, times_none l v, ap (λ (x : ℕ). x * v l) (digit_zero one_lt_two l))

-- a word times a bit
times_bit : (l w d : ℕ) (v : ℕ → ℕ) → d < 2 → word_times l w v ≡ 0 → word_times l (w * d) v ≡ 0
times_bit l w zero v h z = rw (mul-zero w) (times_none l v)
times_bit l w (suc zero) v h z = rw (mul-one w) z
times_bit l w (suc (suc d)) v h z = absurd (omega arith)

digit_bit : (k w d : ℕ) → d < 2 → digit 2 k (w * d) ≡ digit 2 k w * d
digit_bit k w zero h = rw (mul-zero w) (digit_zero one_lt_two k ∙ sym (mul-zero (digit 2 k w)))
digit_bit k w (suc zero) h = rw (mul-one w) (sym (mul-one (digit 2 k w)))
digit_bit k w (suc (suc d)) h = absurd (omega arith)

-- ---- rows reduced by the rows above them

module _ {A : Matrix} where
  -- a row itself
  pub reduced-none : (r w : ℕ) → ((c : ℕ) → c < 32 → digit 2 c w ≡ A r c) → Reduced A 0 r w
  reduced-none r w is = record {
    low = λ c h. absurd (omega arith);
    follows = λ l v fits rows here.
        ap (λ (x : ℕ). x % 2) (sum_ext l (λ c h. ap (λ (x : ℕ). x * v c) (is c (omega arith)))) ∙ here;
  }

  -- one more row
  pub reduced-next : {n r by w : ℕ} → Reduced A n n by → digit 2 n by ≡ 1 → Reduced A n r w → Reduced A (suc n) r (bit_cleared by n w)
  reduced-next {n} {r} {by} {w} P one L = record {
    low = λ c h. digit_xor w (by * digit 2 n w) c ∙ low c h (lt_or_ge c n);
    follows = λ l v fits rows here.
        times_xor l w (by * digit 2 n w) v ∙ ap₂ (λ (x y : ℕ). (x + y) % 2)
        (L.follows l v fits (λ i h. rows i (omega arith)) here)
        (times_bit l by (digit 2 n w) v (digit_lt one_lt_two n w) (P.follows l v fits (λ i h. rows i (omega arith)) (rows n (omega arith))));
  }
    where
      low : (c : ℕ) → c < suc n → (c < n) ⊎ (n ≤ c) → (digit 2 c w + digit 2 c (by * digit 2 n w)) % 2 ≡ 0
      low c h (inl l) =
          ap₂ (λ (x y : ℕ). (x + y) % 2) (L.low c l)
          (digit_bit c by (digit 2 n w) (digit_lt one_lt_two n w) ∙ ap (λ (x : ℕ). x * digit 2 n w) (P.low c l))
          ∙ omega arith
      low c h (inr l) =
          let e : c ≡ n = omega arith in
          let d = digit 2 n w in
          let twice : digit 2 n (by * d) ≡ 1 * d = digit_bit n by d (digit_lt one_lt_two n w) ∙ ap (λ (x : ℕ). x * d) one in
          rw e (ap (λ (y : ℕ). (d + y) % 2) twice ∙ omega arith)

  pub reduced-rows-next : {n by : ℕ} (s : ℕ) (words out : List ℕ) → Reduced A n n by → digit 2 n by ≡ 1 → AllCleared by n words out
      → ReducedRows A n s words → ReducedRows A (suc n) s out
  reduced-rows-next {n} s words out P one all L t h = subst (Reduced A (suc n) (s + t)) (sym (all t h)) (reduced-next P one (L t h))

  pub pivots_next : {n : ℕ} (by : ℕ) → Reduced A n n by → digit 2 n by ≡ 1 → Pivots A n → Pivots A (suc n)
  pivots_next {n} by P one old k h = go (lt_or_ge k n)
    where
      go : (k < n) ⊎ (n ≤ k) → Pivot A k
      go (inl l) = old k l
      go (inr l) = let e : k ≡ n = omega arith in rw e (record { word = by; reduced = P; one = one })

  -- back from the last row: only 0 is sent to 0
  pub pivots_trivial : {m : ℕ} → m ≤ 32 → Pivots A m → Trivial 2 m A
  pivots_trivial {m} fits P v digits null = λ k h. down m k h (omega arith)
    where
      zero_of : (x d : ℕ) → x < 2 → d ≡ 1 → 2 ∣ d * x → x ≡ 0
      zero_of x d small one even =
          let e : d * x % 2 ≡ 0 = mod-eq-zero_of_dvd 2 even in
          omega (arith, ap (λ (y : ℕ). y * x) one)

      at : (k : ℕ) → k < m → ((i : ℕ) → i < m → k < i → v i ≡ 0) → v k ≡ 0
      at k h after = zero_of (v k) (digit 2 k (P k h).word) (digits k h) (P k h).one ((sum-at 2 m k f h other).1
          (dvd_of_mod-eq-zero 2 ((P k h).reduced.follows m v fits (λ i l. null i (omega arith)) (null k h))))
        where
          f : ℕ → ℕ
          f c = digit 2 c (P k h).word * v c

          null-at : (i : ℕ) → i < m → i ≢ k → (i < k) ⊎ (k ≤ i) → f i ≡ 0
          null-at i l ne (inl g) = ap (λ (x : ℕ). x * v i) ((P k h).reduced.low i g) ∙ omega arith
          null-at i l ne (inr g) = ap (λ (x : ℕ). digit 2 i (P k h).word * x) (after i l (omega arith)) ∙ mul-zero (digit 2 i (P k h).word)

          other : (i : ℕ) → i < m → i ≢ k → 2 ∣ f i
          other i l ne = rw (null-at i l ne (lt_or_ge i k)) (dvd-zero 2)

      down : (j k : ℕ) → k < m → m ≤ k + j → v k ≡ 0
      down zero k h g = absurd (omega arith)
      down (suc j) k h g = at k h (λ i l q. down j i l (omega arith))

  pub pivots_nonzero : {m : ℕ} → m ≤ 32 → Pivots A m → det 2 m A ≢ 0
  pivots_nonzero {m} fits P = (nonzero_iff two m A).1 (pivots_trivial fits P)

-- ---- matrices that agree in the rows in question

module _ (A B : Matrix) where
  image-same : (l : ℕ) (v : ℕ → ℕ) (r s : ℕ) → ((c : ℕ) → A r c ≡ B s c) → image 2 l A v r ≡ image 2 l B v s
  image-same l v r s e = ap (λ (x : ℕ). x % 2) (sum_ext l (λ c h. ap (λ (x : ℕ). x * v c) (e c)))

  pub reduced-same : {n r w : ℕ} (s : ℕ) → ((i c : ℕ) → i < n → A i c ≡ B i c) → ((c : ℕ) → A r c ≡ B s c) → Reduced A n r w → Reduced B n s w
  reduced-same {n} {r} {w} s above here L = record {
    low = L.low;
    follows = λ l v fits rows row. L.follows l v fits (λ i h. image-same l v i i (λ c. above i c h) ∙ rows i h) (image-same l v r s here ∙ row);
  }

  pub pivots_same : {n : ℕ} → ((i c : ℕ) → i < n → A i c ≡ B i c) → Pivots A n → Pivots B n
  pivots_same above P k h = record {
    word = (P k h).word;
    reduced = reduced-same k (λ i c l. above i c (omega arith)) (λ c. above k c h) (P k h).reduced;
    one = (P k h).one;
  }
