-- Every number above 1 has a prime divisor, and a determinant modulo b tells the one modulo each divisor of b. Assumes nothing.
use mathlib.Core.Path.{◌≡◌, refl, sym, ap, ◌∙◌}
use mathlib.Core.Logic.{◌⊎◌, inl, inr, ◌≢◌}
use Prim.Native.Nat.{ℕ, zero, suc, ◌+◌, ◌-◌, ◌*◌, ◌/◌, ◌%◌, ◌^◌, ◌≤◌, ◌<◌, ◌∣◌}
use native.Mathlib.Nat.{pow-zero, pow-suc, dvd_refl, dvd_trans, dvd_of_mod-eq-zero, mod-mod_of_dvd, mul-div_cancel', mul-add-mod_self_right}
use native.Mathlib.Decide.{dec_lt, ℕ_discrete}
use native.Mathlib.Omega.{arith}
use Rattle.ranges.proofs.Order.{find}
use Rattle.digits.proofs.Remainder.{mul_cong}
use Rattle.linear.specs.Prime.{Prime}
use Rattle.linear.specs.Matrix.{Matrix, minor, det}
use Rattle.linear.proofs.Expand.{expand}
use Rattle.linear.proofs.Modulo.{sum_cong, det_is}

-- ---- a prime divisor: b itself, or one of a divisor of b that is smaller; f bounds b

abbrev Fine : ℕ → ℕ → Type 0
Fine b d = 1 < d → b % d ≢ 0

fine : (b d : ℕ) → Dec (Fine b d)
fine b d = both (dec_lt 1 d) (ℕ_discrete (b % d) 0)
  where
    both : Dec (1 < d) → Dec (b % d ≡ 0) → Dec (Fine b d)
    both (yes h) (yes e) = no (λ k. k h e)
    both (yes h) (no e) = yes (λ g. e)
    both (no h) e = yes (λ g. absurd (h g))

not_fine : (b d : ℕ) → ¬ (Fine b d) → (1 < d) × (b % d ≡ 0)
not_fine b d k = both (dec_lt 1 d) (ℕ_discrete (b % d) 0)
  where
    both : Dec (1 < d) → Dec (b % d ≡ 0) → (1 < d) × (b % d ≡ 0)
    both (yes h) (yes e) = (h, e)
    both (yes h) (no e) = absurd (k (λ g. e))
    both (no h) e = absurd (k (λ g. absurd (h g)))

divisor_below : (f b : ℕ) → b ≤ f → 1 < b → (p : ℕ) × Prime p × (p ∣ b)
divisor_below zero b l big = absurd (omega arith)
divisor_below (suc f) b l big = go (find b (Fine b) (fine b)) (λ d. divisor_below f d)
  where
    go : ((d : ℕ) × (d < b) × (¬ (Fine b d))) ⊎ ((d : ℕ) → d < b → Fine b d)
        → ((d : ℕ) → d ≤ f → 1 < d → (p : ℕ) × Prime p × (p ∣ d)) → (p : ℕ) × Prime p × (p ∣ b)
    go (inl (d, small, k)) less =
        let (above, e) = not_fine b d k in
        let (p, prime, divides) = less d (omega arith) above in
        (p, prime, dvd_trans p divides (dvd_of_mod-eq-zero d e))
    go (inr all) less = (b, record { big = big; no_divisor = λ d h k. all d k h }, dvd_refl b)

pub prime_divisor : (b : ℕ) → 1 < b → (p : ℕ) × Prime p × (p ∣ b)
prime_divisor b big = divisor_below b b (omega arith) big

-- ---- the expansion with the sign of b and with that of p

module _ {b p : ℕ} (big : 1 < b) (above : 1 < p) (divides : p ∣ b) where
  sign : (b - 1) % p ≡ (p - 1) % p
  sign =
      let q = b / p in
      let whole : p * q ≡ b = mul-div_cancel' p divides in
      go q whole
    where
      go : (q : ℕ) → p * q ≡ b → (b - 1) % p ≡ (p - 1) % p
      go zero e = absurd (omega arith)
      go (suc q) e = let f : b - 1 ≡ q * p + (p - 1) = omega arith in ap (λ (x : ℕ). x % p) f ∙ mul-add-mod_self_right q p (p - 1)

  signs : (j : ℕ) → (b - 1) ^ j % p ≡ (p - 1) ^ j % p
  signs zero = rw (pow-zero (b - 1), pow-zero (p - 1)) refl
  signs (suc j) = rw (pow-suc (b - 1) j, pow-suc (p - 1) j) (mul_cong p ((b - 1) ^ j) ((p - 1) ^ j) (b - 1) (p - 1) (signs j) sign)

  expands : (n : ℕ) (A : Matrix) → expand (b - 1) n A % p ≡ expand (p - 1) n A % p
  unfolding expand
  expands zero A = refl
  expands (suc n) A =
      sum_cong p (suc n) (λ j. (b - 1) ^ j * A 0 j * expand (b - 1) n (minor A j)) (λ j. (p - 1) ^ j * A 0 j * expand (p - 1) n (minor A j)) (λ j l.
      mul_cong p ((b - 1) ^ j * A 0 j) ((p - 1) ^ j * A 0 j) (expand (b - 1) n (minor A j)) (expand (p - 1) n (minor A j))
      (mul_cong p ((b - 1) ^ j) ((p - 1) ^ j) (A 0 j) (A 0 j) (signs j) refl) (expands n (minor A j)))

  pub det_divisor : (n : ℕ) (A : Matrix) → det b n A % p ≡ det p n A
  det_divisor n A =
      ap (λ (x : ℕ). x % p) (det_is big n A) ∙ mod-mod_of_dvd p (expand (b - 1) n A) divides ∙ expands n A ∙ sym (det_is above n A)
