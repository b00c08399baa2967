-- From an index to the next, in any base: the digits that change, and with them the product, which is additive. Assumes nothing.
use mathlib.Core.Path.{◌≡◌, refl, sym, ap, ap₂, subst, ◌∙◌}
use mathlib.Core.Logic.{◌⊎◌, inl, inr, ◌≢◌}
use mathlib.Core.List.{List}
use Prim.Native.Nat.{ℕ, zero, suc, ◌+◌, ◌*◌, ◌/◌, ◌%◌, ◌^◌, ◌≤◌, ◌<◌}
use native.Mathlib.Nat.{div-add-mod', mod-lt, mod_self, mod-eq_of_lt, div-lt_iff_lt-mul, one-mul, pow-zero, pow-suc}
use native.Mathlib.Omega.{arith}
use native.Mathlib.Numerals.{add-one}
use lib.Count.{count_trailing_zeros, under}
use lib.ListN.{get_or}
use Rattle.ranges.proofs.Order.{lt_or_ge}
use Rattle.digits.specs.Digits.{plus}
use Rattle.digits.proofs.Digit.{pow-one, join_lt}
use Rattle.digits.proofs.Remainder.{join-high, join-low}
use Rattle.digits.proofs.Arithmetic.{plus_comm, plus-zero, plus_step, plus_split}
use Rattle.digits.proofs.Two.{one_lt_two}
use Rattle.net.specs.Generators.{product}
use Rattle.net.proofs.Choice.{lowest}
use Rattle.net.proofs.Product.{product-plus, product-pow}
use Rattle.net.proofs.Two.{trailing_zeros-lowest}
use Rattle.word.specs.Prefix.{ones}

-- the parts of q * b + r
div-join : {b : ℕ} (q r : ℕ) → r < b → (q * b + r) / b ≡ q
div-join {b} q r h = join-high (mod-lt (q * b + r) (omega arith)) h (div-add-mod' (q * b + r) b)

mod-join : {b : ℕ} (q r : ℕ) → r < b → (q * b + r) % b ≡ r
mod-join {b} q r h = join-low ((q * b + r) / b) q (mod-lt (q * b + r) (omega arith)) h (div-add-mod' (q * b + r) b)

module _ {b : ℕ} (big : 1 < b) where
  -- ---- ones

  ones_step : (m n : ℕ) → plus b m (ones b (suc n)) ≡ plus b (m / b) (ones b n) * b + (m % b + 1) % b
  unfolding ones
  ones_step m n =
      plus_step big m (ones b n * b + 1)
      ∙ ap₂ (λ (x y : ℕ). plus b (m / b) x * b + (m % b + y) % b) (div-join (ones b n) 1 big) (mod-join (ones b n) 1 big)

  ones-pow : (n : ℕ) → ones b (suc n) ≡ 1 * b ^ n + ones b n
  unfolding ones
  ones-pow zero = rw pow-zero (omega arith)
  ones-pow (suc n) = ap (λ (x : ℕ). x * b + 1) (ones-pow n) ∙ rw pow-suc (omega arith)

  ones_lt : (n : ℕ) → ones b n < b ^ n
  unfolding ones
  ones_lt zero = rw pow-zero (omega arith)
  ones_lt (suc n) = ap_lt (join_lt big n 1 (ones b n) 1 (ones_lt n) (rw (pow-one big) big))
    where
      ap_lt : ones b n * b ^ 1 + 1 < b ^ (n + 1) → ones b n * b + 1 < b ^ suc n
      ap_lt h = rw (add-one n) at (rw (pow-one big) at h)

  ones-plus : (n : ℕ) → ones b (suc n) ≡ plus b (ones b n) (b ^ n)
  ones-plus n =
      ones-pow n ∙ sym (plus_split big n 1 (ones b n) (ones_lt n)) ∙ plus_comm big (1 * b ^ n) (ones b n)
      ∙ ap (plus b (ones b n)) (one-mul (b ^ n))

  no_ones : (m : ℕ) → plus b m (ones b 0) ≡ m
  unfolding ones
  no_ones = plus-zero big

  -- ---- the index after i: below its lowest digit other than 0 it has zeros, where i has b - 1

  carry_turn : (i s t : ℕ) → suc i % b ≡ s → (suc i / b ≡ suc (i / b) → plus b (i / b) (ones b (suc t)) ≡ suc (i / b))
      → plus b i (ones b (suc (under s t))) ≡ suc i
  carry_turn i s t e ih = go s e (lt_or_ge (suc (i % b)) b)
    where
      whole : i / b * b + i % b ≡ i
      whole = div-add-mod' i b

      low : i % b < b
      low = mod-lt i (omega arith)

      -- no carry
      plain : suc (i % b) < b → suc i % b ≡ suc (i % b)
      plain l = ap (λ (x : ℕ). x % b) (omega (arith, whole)) ∙ mod-join (i / b) (suc (i % b)) l

      -- a carry
      next : b ≤ suc (i % b) → suc i ≡ suc (i / b) * b + 0
      next l = let r : suc (i % b) ≡ b = omega (arith, low) in omega (arith, whole, r)

      go : (s : ℕ) → suc i % b ≡ s → (suc (i % b) < b) ⊎ (b ≤ suc (i % b)) → plus b i (ones b (suc (under s t))) ≡ suc i
      go zero e (inl l) = let clash = plain l in absurd (omega (arith, clash, e))
      go zero e (inr l) =
          ones_step i (suc t)
          ∙ ap₂ (λ (x y : ℕ). x * b + y)
          (ih (ap (λ (x : ℕ). x / b) (next l) ∙ div-join (suc (i / b)) 0 (omega arith)))
          (ap (λ (x : ℕ). x % b) (omega (arith, low)) ∙ mod_self b)
          ∙ sym (next l)
      go (suc s) e (inl l) =
          ones_step i 0
          ∙ ap₂ (λ (x y : ℕ). x * b + y) (no_ones (i / b)) (mod-eq_of_lt (omega (arith, l)))
          ∙ omega (arith, whole)
      go (suc s) e (inr l) =
          let clash = ap (λ (x : ℕ). x % b) (next l) ∙ mod-join (suc (i / b)) 0 (omega arith) in absurd (omega (arith, clash, e))

  pub carry : (w i : ℕ) → suc i < b ^ w → plus b i (ones b (suc (lowest b w (suc i)))) ≡ suc i
  unfolding lowest
  carry zero i h = absurd (omega (arith, rw pow-zero at h))
  carry (suc w) i h =
      carry_turn i (suc i % b) (lowest b w (suc i / b)) refl
      (λ e. subst (λ (n : ℕ). plus b (i / b) (ones b (suc (lowest b w n))) ≡ suc (i / b)) (sym e)
      (carry w (i / b) (subst (λ (n : ℕ). n < b ^ w) e ((div-lt_iff_lt-mul (omega arith)).1 (rw pow-suc at h)))))

  pub lowest_lt : (w n : ℕ) → n ≢ 0 → n < b ^ w → lowest b w n < w
  unfolding lowest
  lowest_lt zero n ne h = absurd (ne (omega (arith, rw pow-zero at h)))
  lowest_lt (suc w) n ne h =
      go (n % b) refl (λ k. lowest_lt w (n / b) k ((div-lt_iff_lt-mul (omega arith)).1 (rw pow-suc at h)))
    where
      go : (s : ℕ) → n % b ≡ s → (n / b ≢ 0 → lowest b w (n / b) < w) → under s (lowest b w (n / b)) < suc w
      go zero e ih = let l = ih (λ q. ne (sym (div-add-mod' n b) ∙ ap₂ (λ (x y : ℕ). x * b + y) q e ∙ omega arith)) in omega (arith, l)
      go (suc s) e ih = omega arith

  -- ---- the product

  -- one column more
  pub product-ones : (C : List ℕ) (n : ℕ) → product b C (ones b (suc n)) ≡ plus b (product b C (ones b n)) (get_or C n 0)
  product-ones C n =
      ap (product b C) (ones-plus n) ∙ product-plus big C (ones b n) (b ^ n) ∙ ap (plus b (product b C (ones b n))) (product-pow big C n)

  -- one index more
  pub product-next : (C : List ℕ) (w i : ℕ) → suc i < b ^ w
      → product b C (suc i) ≡ plus b (product b C i) (product b C (ones b (suc (lowest b w (suc i)))))
  product-next C w i h = ap (product b C) (sym (carry w i h)) ∙ product-plus big C i (ones b (suc (lowest b w (suc i))))

-- a number of 32 bits other than 0 has fewer than 32 trailing zeros
pub trailing_zeros-below : (n : ℕ) → 0 < n → n < 2 ^ 32 → count_trailing_zeros 32 n < 32
trailing_zeros-below n some fits = rw (trailing_zeros-lowest 32 n) (lowest_lt one_lt_two 32 n (λ e. omega (arith, e, some)) fits)
