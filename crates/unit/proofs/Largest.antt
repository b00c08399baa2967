-- The single of v / 2 ^ L is the largest that is not above it, among all values of the format. Assumes nothing.
use mathlib.Core.Path.{◌≡◌, refl, sym, ap, ◌∙◌, subst}
use mathlib.Core.Logic.{◌⊎◌, inl, inr, ⊎_elim}
use mathlib.Core.Bool.{Bool, true, false, ◌&&◌, ◌||◌}
use Prim.Native.Nat.{ℕ, zero, suc, ◌+◌, ◌-◌, ◌*◌, ◌/◌, ◌%◌, ◌^◌, ◌≤◌, ◌<◌, zero-le}
use native.Mathlib.Nat.{le_trans, le_of_eq, le_of_lt, eq-zero-or-pos, mul-one, zero-mul, mul_right_comm, mul-le-mul_right, mul-le-mul}
use native.Mathlib.Nat.{le_of_mul-le-mul_right, div-mul-le_self, le-div_iff_mul-le}
use native.Mathlib.Omega.{arith}
use lib.Dec.{T, eqb, ltb, leb, ltb→lt, eqb→eq, lit<, lt→ltb}
use lib.Count.{count_leading_zeros}
use lib.IntN.{ℤ, pos, negsuc}
use lib.Pow.{pow_pos, pow_mono}
use lib.Ieee.{Float, nan, inf, fin, binary32, up, down, fits, le}
use lib.Ieee.Bits.{of_bits-fits}
use lib.Ieee.Exact.{HasValue}
use lib.Ieee.Fits.{and_l, and_r, down_pos}
use lib.Ieee.Order.{le_of_values}
use Rattle.ranges.proofs.Order.{lt_or_ge}
use Rattle.unit.specs.Quotient.{nearest_double, lower_bits, lower_single}
use Rattle.unit.specs.Theorem.{WideEnough, Largest}
use Rattle.unit.proofs.Powers.{powers, three_powers}
use Rattle.unit.proofs.Leading.{weight_le}
use Rattle.unit.proofs.Doubles.{double-value}
use Rattle.unit.proofs.Kept.{cut, kept, uncut, single-value}

-- ---- a number of 24 digits at any exponent that is not above v / 2 ^ L is not above what is kept of it

-- m / 2 ^ k, where digits of v are cut off
module _ (L v z m k : ℕ) (few : z < L - 24) (leading : 2 ^ (L - 1 - z) ≤ v) (digits : m < 2 ^ 24) (below : m * 2 ^ L ≤ v * 2 ^ k) where
  -- the unit is too fine: all that is kept is more than any such number
  fine : 24 + z < k → m * 2 ^ L ≤ v / 2 ^ (L - 24 - z) * 2 ^ (L - 24 - z) * 2 ^ k
  fine l =
      let s = L - 24 - z in
      let q : 2 ^ 23 ≤ v / 2 ^ s = (le-div_iff_mul-le (pow_pos s)).1 (le_trans (le_of_eq (powers 23 s (L - 1 - z) (omega arith))) leading) in
      let least : 2 ^ 23 * 2 ^ s * 2 ^ (25 + z) ≤ v / 2 ^ s * 2 ^ s * 2 ^ k = mul-le-mul (mul-le-mul_right (2 ^ s) q) (pow_mono (omega arith)) in
      let most : m * 2 ^ L ≤ 2 ^ 24 * 2 ^ L = mul-le-mul_right (2 ^ L) (le_of_lt digits) in
      let all : 23 + s + (25 + z) ≡ 24 + L = omega arith in
      le_trans most (le_trans (le_of_eq (powers 24 L (24 + L) refl ∙ sym (three_powers 23 s (25 + z) (24 + L) all))) least)

  -- the unit is a multiple of what is kept
  coarse : k ≤ 24 + z → m * 2 ^ L ≤ v / 2 ^ (L - 24 - z) * 2 ^ (L - 24 - z) * 2 ^ k
  coarse l =
      let s = L - 24 - z in
      let r = 24 + z - k in
      let all : r + s + k ≡ L = omega arith in
      let same : m * 2 ^ L ≡ m * 2 ^ r * 2 ^ s * 2 ^ k = sym (omega (arith, ap (λ (x : ℕ). m * x) (three_powers r s k L all))) in
      let part : m * 2 ^ r * 2 ^ s ≤ v = le_of_mul-le-mul_right (le_trans (le_of_eq (sym same)) below) (pow_pos k) in
      le_trans (le_of_eq same) (mul-le-mul_right (2 ^ k) (mul-le-mul_right (2 ^ s) ((le-div_iff_mul-le (pow_pos s)).1 part)))

  cut_bound : m * 2 ^ L ≤ v / 2 ^ (L - 24 - z) * 2 ^ (L - 24 - z) * 2 ^ k
  cut_bound = ⊎_elim fine coarse (lt_or_ge (24 + z) k)

-- none but 0 is a multiple of 2 ^ L
no_multiple : (a v L : ℕ) → a * 2 ^ L ≤ v → v < 2 ^ L → a ≡ 0
no_multiple zero v L h below = refl
no_multiple (suc a) v L h below = absurd (omega arith)

small_bound : (L v m k : ℕ) → v < 2 ^ L → m < 2 ^ 24 → m * 2 ^ L ≤ v * 2 ^ k → m * 2 ^ L ≤ kept L v * 2 ^ k
small_bound L v m k below digits h = go (lt_or_ge (count_leading_zeros L v) (L - 24)) (eq-zero-or-pos v)
  where
    go : (count_leading_zeros L v < L - 24) ⊎ (L - 24 ≤ count_leading_zeros L v) → (v ≡ 0) ⊎ (0 < v) → m * 2 ^ L ≤ kept L v * 2 ^ k
    go (inl few) (inl none) =
        let nothing : m * 2 ^ L ≤ 0 = le_trans h (le_of_eq (ap (λ (x : ℕ). x * 2 ^ k) none ∙ zero-mul (2 ^ k))) in
        le_trans nothing zero-le
    go (inl few) (inr positive) = cut_bound L v (count_leading_zeros L v) m k few (weight_le L v positive below) digits h
    go (inr many) either =
        let none : cut L v ≡ 0 = omega arith in
        subst (λ (x : ℕ). m * 2 ^ L ≤ x * 2 ^ k) (sym (uncut v (cut L v) none)) h

kept_bound : (L v m : ℕ) (e : ℤ) → v < 2 ^ L → m < 2 ^ 24 → m * up e * 2 ^ L ≤ v * down e → m * up e * 2 ^ L ≤ kept L v * down e
kept_bound L v m (pos k) below digits h =
    let none : m * 2 ^ k ≡ 0 = no_multiple (m * 2 ^ k) v L (le_trans h (le_of_eq (mul-one v))) below in
    le_trans (le_of_eq (ap (λ (x : ℕ). x * 2 ^ L) none ∙ zero-mul (2 ^ L))) zero-le
kept_bound L v m (negsuc k) below digits h =
    let one : m * 1 ≡ m = mul-one m in
    subst (λ (x : ℕ). x * 2 ^ L ≤ kept L v * 2 ^ suc k) (sym one)
    (small_bound L v m (suc k) below digits (subst (λ (x : ℕ). x * 2 ^ L ≤ v * 2 ^ suc k) one h))

-- ---- the order of floats

-- two that are not negative, by cross products
cross : (m n : ℕ) (e g : ℤ) → T (le (fin false m e) (fin false n g)) → m * up e * down g ≤ n * up g * down e
unfolding le
cross m n e g t =
    let p = m * up e * down g in
    let q = n * up g * down e in
    go p q (ltb p q) (ltb→lt p q) t
  where
    go : (a b : ℕ) (l : Bool) → (T l → a < b) → T (l || (eqb a b && (true || eqb a 0))) → a ≤ b
    go a b true f t = le_of_lt (f tt)
    go a b false f t = le_of_eq (eqb→eq a b (and_l (eqb a b) true t))

-- a negative number, or -0, is not above one that is not negative
negative_le : (m n : ℕ) (e g : ℤ) → T (le (fin true m e) (fin false n g))
unfolding le
negative_le m n e g = go (m * up e * down g) (n * up g * down e)
  where
    or_l : (p q : Bool) → T p → T (p || q)
    or_l true q t = tt
    or_l false q t = elim t [ ]

    go : (a b : ℕ) → T (ltb 0 (a + b) || (eqb a b && (false || eqb a 0)))
    go zero zero = tt
    go zero (suc b) = or_l (ltb 0 (zero + suc b)) _ (lt→ltb 0 (zero + suc b) (omega arith))
    go (suc a) b = or_l (ltb 0 (suc a + b)) _ (lt→ltb 0 (suc a + b) (omega arith))

digits_of : (m : ℕ) (e : ℤ) → T (fits binary32 (fin false m e)) → m < 2 ^ 24
unfolding fits
digits_of zero e t = lit< tt
digits_of (suc m) e t =
    ltb→lt (suc m) (2 ^ 24)
    (and_r (eqb (suc m % 2) 1) (ltb (suc m) (2 ^ 24))
    (and_l (eqb (suc m % 2) 1 && ltb (suc m) (2 ^ 24)) (leb (down e) (2 ^ 149))
    (and_l (eqb (suc m % 2) 1 && ltb (suc m) (2 ^ 24) && leb (down e) (2 ^ 149)) (ltb (suc m * up e) (2 ^ 128 * down e)) t)))

-- no single lies above what is kept and not above v / 2 ^ L
none_between : (L v : ℕ) → v < 2 ^ L → (u x y : Float) → HasValue x false (kept L v) (2 ^ L) → HasValue y false v (2 ^ L)
    → T (fits binary32 u) → T (le u y) → T (le u x)
unfolding le
none_between L v h u nan y a b f t = absurd a
none_between L v h u (inf s) y a b f t = absurd a
none_between L v h u (fin s n g) nan a b f t = absurd b
none_between L v h u (fin s n g) (inf r) a b f t = absurd b
none_between L v h nan (fin s n g) (fin r k i) a b f t = absurd t
none_between L v h (inf true) (fin s n g) (fin r k i) a b f t = tt
none_between L v h (inf false) (fin s n g) (fin r k i) a b f t = absurd t
none_between L v h (fin true m e) (fin s n g) (fin r k i) a b f t =
    subst (λ (q : Bool). T (le (fin true m e) (fin q n g))) (sym a.0) (negative_le m n e g)
none_between L v h (fin false m e) (fin s n g) (fin r k i) a b f t =
    let crossed : m * up e * down i ≤ k * up i * down e = cross m k e i (subst (λ (q : Bool). T (le (fin false m e) (fin q k i))) b.0 t) in
    le_of_values (fin false m e) (fin s n g) (m * up e) (down e) (kept L v) (2 ^ L) (down_pos e) (pow_pos L) (refl, refl) a
    (kept_bound L v m e h (digits_of m e f) (scaled (m * up e) (down e) (k * up i) (down i) (2 ^ L) (down_pos i) b.1 crossed))
  where
    scaled : (p d q c l : ℕ) → 0 < c → q * l ≡ v * c → p * c ≤ q * d → p * l ≤ v * d
    scaled p d q c l positive value h =
        le_of_mul-le-mul_right
        (le_trans (le_of_eq (mul_right_comm p l c))
        (le_trans (mul-le-mul_right l h) (le_of_eq (mul_right_comm q d l ∙ ap (λ (x : ℕ). x * d) value ∙ mul_right_comm v c d))))
        positive

pub single-largest : {L : ℕ} → WideEnough L → {v : ℕ} → v < 2 ^ L → Largest binary32 (lower_single L v) (nearest_double L v)
single-largest {L} wide {v} below =
    let x = lower_single L v in
    let d = nearest_double L v in
    let x-value = single-value wide below in
    let d-value = double-value wide.at_most below in
    let less : kept L v * 2 ^ L ≤ v * 2 ^ L = mul-le-mul_right (2 ^ L) (div-mul-le_self v (2 ^ cut L v)) in
    record {
      in_format = of_bits-fits binary32 (lower_bits L v);
      not_above = le_of_values x d (kept L v) (2 ^ L) v (2 ^ L) (pow_pos L) (pow_pos L) x-value d-value less;
      none_between = λ u f t. none_between L v below u x d x-value d-value f t;
    }
