-- The digits of a number: they determine it, and an operation digit by digit acts on each of them. Assumes nothing.
use mathlib.Core.Path.{◌≡◌, refl, sym, ap, ap₂, ◌∙◌}
use Prim.Native.Nat.{ℕ, zero, suc, ◌+◌, ◌*◌, ◌/◌, ◌%◌, ◌^◌, ◌≤◌, ◌<◌}
use native.Mathlib.Nat.{one-mul, lt_of_lt_of_le, pow-le-pow_right, mul-le-mul_left, mul-div_cancel, one-le-pow, mul-mod_left}
use native.Mathlib.Nat.{pow-zero, pow-suc, pow-succ', div-one, div-div-eq-div-mul, zero-div, zero-mod, mod-lt, div-eq_of_lt}
use native.Mathlib.Nat.{div-add-mod', div-lt_iff_lt-mul, div-lt_self}
use native.Mathlib.Omega.{arith}
use lib.Arith.{digits_div, digits_mod, digits_lt, mod-mul}
use lib.Pow.{pow-add}
use Rattle.digits.specs.Digits.{digit, from_digits, digitwise}

module _ {b : ℕ} (big : 1 < b) where
  pos : 0 < b
  pos = omega arith

  -- ---- powers

  pub pow_pos : (k : ℕ) → 0 < b ^ k
  pow_pos k = one-le-pow k b pos

  pub pow-one : b ^ 1 ≡ b
  pow-one = pow-suc b 0 ∙ ap (λ (x : ℕ). x * b) (pow-zero b) ∙ one-mul b

  pub pow-div : (j k : ℕ) → b ^ (j + k) / b ^ k ≡ b ^ j
  pow-div j k = ap (λ (x : ℕ). x / b ^ k) (pow-add b j k) ∙ mul-div_cancel (b ^ j) (pow_pos k)

  pub pow_lt : (j k : ℕ) → j < k → b ^ j < b ^ k
  pow_lt j k h =
      let p = pow_pos j in
      let l = mul-le-mul_left (b ^ j) big in
      let next : b ^ j < b ^ suc j = rw pow-suc (omega arith) in
      lt_of_lt_of_le next (pow-le-pow_right pos h)

  pub div-suc : (k n : ℕ) → n / b / b ^ k ≡ n / b ^ suc k
  div-suc k n = div-div-eq-div-mul n b (b ^ k) ∙ ap (λ (x : ℕ). n / x) (sym (pow-succ' b k))

  -- ---- single digits

  pub digit_lt : (k n : ℕ) → digit b k n < b
  digit_lt k n = mod-lt (n / b ^ k) pos

  pub digit_low : (n : ℕ) → digit b 0 n ≡ n % b
  digit_low n = simp (pow-zero, div-one)

  -- the digits above the lowest are those of n / b
  pub digit-suc : (k n : ℕ) → digit b (suc k) n ≡ digit b k (n / b)
  digit-suc k n = simp (pow-succ', div-div-eq-div-mul)

  pub digit-div : (j k n : ℕ) → digit b k (n / b ^ j) ≡ digit b (j + k) n
  digit-div j k n = simp (div-div-eq-div-mul, pow-add)

  pub digit_zero : (k : ℕ) → digit b k 0 ≡ 0
  digit_zero k = simp (zero-div, zero-mod)

  -- digits of q * b + r
  pub digit_cons_low : (q r : ℕ) → r < b → digit b 0 (q * b + r) ≡ r
  digit_cons_low q r h = digit_low (q * b + r) ∙ digits_mod q h

  pub digit_cons_suc : (k q r : ℕ) → r < b → digit b (suc k) (q * b + r) ≡ digit b k q
  digit_cons_suc k q r h = digit-suc k (q * b + r) ∙ ap (digit b k) (digits_div q h)

  pub mod-pow-suc : (j n : ℕ) → n % b ^ suc j ≡ n / b % b ^ j * b + n % b
  mod-pow-suc j n = ap (λ (x : ℕ). n % x) (pow-suc b j) ∙ mod-mul n (pow_pos j) pos

  -- ---- a number has fewer digits than it counts, and is determined by them

  pub shrink : (w m : ℕ) → m ≤ suc w → m / b ≤ w
  shrink w zero h = rw zero-div (omega arith)
  shrink w (suc m) h = let l = div-lt_self {n = suc m} {k = b} (omega arith) big in omega arith

  pub lt_pow : (n : ℕ) → n < b ^ n
  lt_pow zero = pow_pos 0
  lt_pow (suc n) =
      let ih = lt_pow n in
      let l = mul-le-mul_left (b ^ n) big in
      rw pow-suc (omega arith)

  pub div_lt : (j k n : ℕ) → n < b ^ (j + k) → n / b ^ k < b ^ j
  div_lt j k n h = (div-lt_iff_lt-mul (pow_pos k)).1 (rw (← pow-add b j k) h)

  pub join_lt : (j k q r : ℕ) → q < b ^ j → r < b ^ k → q * b ^ k + r < b ^ (j + k)
  join_lt j k q r hq hr = rw (pow-add b j k) (digits_lt hq hr)

  pub lt_of-div : (k n : ℕ) → n / b ^ k ≡ 0 → n < b ^ k
  lt_of-div k n e = let l = (div-lt_iff_lt-mul {x = n} {y = 1} (pow_pos k)).0 (omega arith) in omega arith

  pub digit-high : (j k n : ℕ) → n < b ^ j → j ≤ k → digit b k n ≡ 0
  digit-high j k n h l = ap (λ (x : ℕ). x % b) (div-eq_of_lt (lt_of_lt_of_le h (pow-le-pow_right pos l))) ∙ zero-mod b

  pub ext_below : (w m n : ℕ) → m < b ^ w → n < b ^ w → ((k : ℕ) → k < w → digit b k m ≡ digit b k n) → m ≡ n
  ext_below zero m n hm hn h = omega (arith, rw pow-zero at hm, rw pow-zero at hn)
  ext_below (suc w) m n hm hn h =
      sym (div-add-mod' m b)
      ∙ ap₂ (λ (x y : ℕ). x * b + y)
      (ext_below w (m / b) (n / b) (part hm) (part hn) (λ k l. sym (digit-suc k m) ∙ h (suc k) (omega arith) ∙ digit-suc k n))
      (sym (digit_low m) ∙ h 0 (omega arith) ∙ digit_low n)
      ∙ div-add-mod' n b
    where
      part : {x : ℕ} → x < b ^ suc w → x / b < b ^ w
      part {x} l = (div-lt_iff_lt-mul pos).1 (rw pow-suc at l)

  pub ext : (m n : ℕ) → ((k : ℕ) → digit b k m ≡ digit b k n) → m ≡ n
  ext m n h = ext_below (m + n) m n (wide m (omega arith)) (wide n (omega arith)) (λ k l. h k)
    where
      wide : (x : ℕ) → x ≤ m + n → x < b ^ (m + n)
      wide x l = lt_of_lt_of_le (lt_pow x) (pow-le-pow_right pos l)

  -- ---- the lowest j digits, and the digits from j on

  pub digit-mod : (k j n : ℕ) → k < j → digit b k (n % b ^ j) ≡ digit b k n
  digit-mod k zero n h = absurd (omega arith)
  digit-mod zero (suc j) n h =
      ap (digit b 0) (mod-pow-suc j n) ∙ digit_cons_low (n / b % b ^ j) (n % b) (mod-lt n pos) ∙ sym (digit_low n)
  digit-mod (suc k) (suc j) n h =
      ap (digit b (suc k)) (mod-pow-suc j n) ∙ digit_cons_suc k (n / b % b ^ j) (n % b) (mod-lt n pos)
      ∙ digit-mod k j (n / b) (omega arith) ∙ sym (digit-suc k n)

  -- digits of q * b ^ j + r
  pub digit-join-low : (k j q r : ℕ) → r < b ^ j → k < j → digit b k (q * b ^ j + r) ≡ digit b k r
  digit-join-low k j q r h l = sym (digit-mod k j (q * b ^ j + r) l) ∙ ap (digit b k) (digits_mod q h)

  pub digit-join-high : (k j q r : ℕ) → r < b ^ j → digit b (j + k) (q * b ^ j + r) ≡ digit b k q
  digit-join-high k j q r h = sym (digit-div j k (q * b ^ j + r)) ∙ ap (digit b k) (digits_div q h)

  -- ---- where the e + 1 lowest digits are 0: the e lowest, the next, those of v / b, and the lowest

  pub zero_lower : (e v : ℕ) → v % b ^ suc e ≡ 0 → v % b ^ e ≡ 0
  zero_lower e v z =
      let q = v / b ^ suc e in
      let whole : v ≡ q * b * b ^ e = sym (div-add-mod' v (b ^ suc e)) ∙ ap₂ (λ (x y : ℕ). q * x + y) (pow-succ' b e) z ∙ omega arith in
      ap (λ (x : ℕ). x % b ^ e) whole ∙ mul-mod_left (q * b) (b ^ e)

  pub zero-next : (e v : ℕ) → v % b ^ suc e ≡ 0 → v / b ^ e % b ≡ 0
  zero-next e v z =
      let l = mod-lt v (pow_pos e) in
      let both : v / b ^ e % b * b ^ e + v % b ^ e ≡ 0 = sym (mod-mul v pos (pow_pos e)) ∙ ap (λ (x : ℕ). v % x) (sym (pow-succ' b e)) ∙ z in
      sym (digits_div (v / b ^ e % b) l) ∙ ap (λ (x : ℕ). x / b ^ e) both ∙ zero-div (b ^ e)

  pub zero-down : (e v : ℕ) → v % b ^ suc e ≡ 0 → v / b % b ^ e ≡ 0
  zero-down e v z = sym (digits_div (v / b % b ^ e) (mod-lt v pos)) ∙ ap (λ (x : ℕ). x / b) (sym (mod-pow-suc e v) ∙ z) ∙ zero-div b

  pub zero_last : (e v : ℕ) → v % b ^ suc e ≡ 0 → v % b ≡ 0
  zero_last e v z = omega (arith, sym (mod-pow-suc e v) ∙ z)

  -- ---- a number by its digits

  pub digit-from_digits : (w k : ℕ) (d : ℕ → ℕ) → k < w → digit b k (from_digits b w d) ≡ d k % b
  unfolding from_digits
  digit-from_digits zero k d h = absurd (omega arith)
  digit-from_digits (suc w) zero d h = digit_cons_low (from_digits b w (λ k. d (suc k))) (d 0 % b) (mod-lt (d 0) pos)
  digit-from_digits (suc w) (suc k) d h =
      digit_cons_suc k (from_digits b w (λ k. d (suc k))) (d 0 % b) (mod-lt (d 0) pos) ∙ digit-from_digits w k (λ k. d (suc k)) (omega arith)

  pub from_digits_lt : (w : ℕ) (d : ℕ → ℕ) → from_digits b w d < b ^ w
  unfolding from_digits
  from_digits_lt zero d = pow_pos 0
  from_digits_lt (suc w) d = rw pow-suc (digits_lt (from_digits_lt w (λ k. d (suc k))) (mod-lt (d 0) pos))

  -- ---- digit by digit

  module _ (f : ℕ → ℕ → ℕ) (none : f 0 0 % b ≡ 0) where
    blank : (m n k : ℕ) → m ≡ 0 → n ≡ 0 → digit b k 0 ≡ f (digit b k m) (digit b k n) % b
    blank m n k p q = rw (p, q) (rw (digit_zero k) (sym none))

    pub digit-digitwise : (w m n k : ℕ) → m ≤ w → n ≤ w → digit b k (digitwise b f w m n) ≡ f (digit b k m) (digit b k n) % b
    unfolding digitwise
    digit-digitwise zero m n k hm hn = blank m n k (omega arith) (omega arith)
    digit-digitwise (suc w) m n k hm hn =
        go (m + n) refl k (λ k. digit-digitwise w (m / b) (n / b) k (shrink w m hm) (shrink w n hn))
      where
        last : f (m % b) (n % b) % b < b
        last = mod-lt (f (m % b) (n % b)) pos

        go : (s : ℕ) → m + n ≡ s → (k : ℕ) → ((k : ℕ) → digit b k (digitwise b f w (m / b) (n / b)) ≡ f (digit b k (m / b)) (digit b k (n / b)) % b)
            → digit b k (elim s [ zero ↦ 0 | suc s ↦ digitwise b f w (m / b) (n / b) * b + f (m % b) (n % b) % b ])
            ≡ f (digit b k m) (digit b k n) % b
        go zero e k ih = blank m n k (omega arith) (omega arith)
        go (suc s) e zero ih =
            digit_cons_low (digitwise b f w (m / b) (n / b)) (f (m % b) (n % b) % b) last
            ∙ sym (ap₂ (λ (x y : ℕ). f x y % b) (digit_low m) (digit_low n))
        go (suc s) e (suc k) ih =
            digit_cons_suc k (digitwise b f w (m / b) (n / b)) (f (m % b) (n % b) % b) last
            ∙ ih k ∙ sym (ap₂ (λ (x y : ℕ). f x y % b) (digit-suc k m) (digit-suc k n))
