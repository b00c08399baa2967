-- What the single keeps: its exact value in parts of 2 ^ L, by how much it falls short, and its strip. Assumes nothing.
use mathlib.Core.Path.{◌≡◌, refl, sym, ap, ◌∙◌, subst}
use mathlib.Core.Logic.{⊎_elim}
use mathlib.Core.Bool.{false}
use Prim.Native.Nat.{ℕ, ◌+◌, ◌-◌, ◌*◌, ◌/◌, ◌%◌, ◌^◌, ◌≤◌, ◌<◌}
use native.Mathlib.Nat.{eq-zero-or-pos, mul-one, div-one, div-mul-le_self, mod-lt, div-add-mod', zero-div, zero-mul}
use native.Mathlib.Omega.{arith}
use lib.Count.{count_leading_zeros}
use lib.Pow.{pow_pos, shl-shr, shr-shr}
use lib.Ieee.{Float, nan, inf, fin, binary32, up, down, odd, of_bits}
use lib.Ieee.Exact.{HasValue, odd_sign}
use lib.Ieee.Fits.{down_pos}
use lib.Ieee.Nearest.{div_same}
use Rattle.ranges.proofs.Order.{lt_or_ge}
use Rattle.net.specs.Sequence.{top}
use Rattle.unit.specs.Quotient.{leading_digits, lower_single}
use Rattle.unit.specs.Theorem.{WideEnough, Shortfall, InStrip}
use Rattle.unit.proofs.Powers.{powers, three_powers, rescale}
use Rattle.unit.proofs.Leading.{zeros_lt, digits_lt, digits_ge}
use Rattle.unit.proofs.Patterns.{positive-bits, pattern}

-- the number of low digits of v for which a single has no room, and v without them
abbrev pub cut : ℕ → ℕ → ℕ
cut L v = L - 24 - count_leading_zeros L v

abbrev pub kept : ℕ → ℕ → ℕ
kept L v = v / 2 ^ cut L v * 2 ^ cut L v

pub uncut : (v s : ℕ) → s ≡ 0 → v / 2 ^ s * 2 ^ s ≡ v
uncut v s e = ap (λ (j : ℕ). v / 2 ^ j * 2 ^ j) e ∙ mul-one (v / 1) ∙ div-one v

-- the 24 digits of v in the unit of the single are the kept ones in parts of 2 ^ L
abbrev Scaled : ℕ → ℕ → ℕ → Type 0
Scaled L v z = v * 2 ^ z / 2 ^ (L - 24) * 2 ^ (125 - z) * 2 ^ L ≡ v / 2 ^ (L - 24 - z) * 2 ^ (L - 24 - z) * 2 ^ 149

-- where digits are cut off
scaled_cut : (L v z : ℕ) → L ≤ 53 → z < L - 24 → Scaled L v z
scaled_cut L v z most few =
    let s = L - 24 - z in
    let q = v / 2 ^ s in
    let same : v * 2 ^ z * 2 ^ s ≡ v * 2 ^ (L - 24) = omega (arith, ap (λ (x : ℕ). v * x) (powers z s (L - 24) (omega arith))) in
    let digits : v * 2 ^ z / 2 ^ (L - 24) ≡ q = div_same (v * 2 ^ z) (2 ^ (L - 24)) v (2 ^ s) (pow_pos (L - 24)) (pow_pos s) same in
    let all : s + 149 ≡ 125 - z + L = omega arith in
    ap (λ (x : ℕ). x * 2 ^ (125 - z) * 2 ^ L) digits
    ∙ exchange q (2 ^ (125 - z)) (2 ^ L) (2 ^ s) (2 ^ 149) (powers (125 - z) L (125 - z + L) refl ∙ sym (powers s 149 (125 - z + L) all))
  where
    exchange : (q a b c d : ℕ) → a * b ≡ c * d → q * a * b ≡ q * c * d
    exchange q a b c d e = omega (arith, ap (λ (x : ℕ). q * x) e)

-- where zeros are added
scaled_whole : (L v z : ℕ) → 24 ≤ L → L ≤ 53 → L - 24 ≤ z → z < L → Scaled L v z
scaled_whole L v z least most many below =
    let r = z - (L - 24) in
    let moved : v * 2 ^ z ≡ v * 2 ^ r * 2 ^ (L - 24) = omega (arith, ap (λ (x : ℕ). v * x) (powers r (L - 24) z (omega arith))) in
    let digits : v * 2 ^ z / 2 ^ (L - 24) ≡ v * 2 ^ r = ap (λ (x : ℕ). x / 2 ^ (L - 24)) moved ∙ shl-shr (v * 2 ^ r) (L - 24) in
    let none : L - 24 - z ≡ 0 = omega arith in
    ap (λ (x : ℕ). x * 2 ^ (125 - z) * 2 ^ L) digits
    ∙ together v (2 ^ r) (2 ^ (125 - z)) (2 ^ L) (2 ^ 149) (three_powers r (125 - z) L 149 (omega arith))
    ∙ ap (λ (x : ℕ). x * 2 ^ 149) (sym (uncut v (L - 24 - z) none))
  where
    together : (v a b c d : ℕ) → a * b * c ≡ d → v * a * b * c ≡ v * d
    together v a b c d e = omega (arith, ap (λ (x : ℕ). v * x) e)

scaled : (L v z : ℕ) → WideEnough L → z < L → Scaled L v z
scaled L v z wide below =
    let least = wide.at_least in
    let most = wide.at_most in
    ⊎_elim (λ few. scaled_cut L v z most few) (λ many. scaled_whole L v z least most many below) (lt_or_ge z (L - 24))

zero-value : (L : ℕ) → HasValue (lower_single L 0) false (kept L 0) (2 ^ L)
unfolding of_bits
zero-value L =
    let n = 2 ^ cut L 0 in
    let none : 0 / n * n ≡ 0 = ap (λ (x : ℕ). x * n) (zero-div n) ∙ zero-mul n in
    (refl, zero-mul (2 ^ L) ∙ sym (ap (λ (x : ℕ). x * 1) none))

-- the exact value of the single
pub single-value : {L : ℕ} → WideEnough L → {v : ℕ} → v < 2 ^ L → HasValue (lower_single L v) false (kept L v) (2 ^ L)
single-value {L} wide {v} below = ⊎_elim none some (eq-zero-or-pos v)
  where
    none : v ≡ 0 → HasValue (lower_single L v) false (kept L v) (2 ^ L)
    none e = subst (λ (x : ℕ). HasValue (lower_single L x) false (kept L x) (2 ^ L)) (sym e) (zero-value L)

    some : 0 < v → HasValue (lower_single L v) false (kept L v) (2 ^ L)
    some positive =
        let least = wide.at_least in
        let z = count_leading_zeros L v in
        let t = leading_digits L v in
        let field = pattern (125 - z) t (omega arith) (digits_ge L v positive below least) (digits_lt L v below least) in
        subst (λ (x : Float). HasValue x false (kept L v) (2 ^ L)) (sym (ap (of_bits binary32) (positive-bits L v positive) ∙ field))
        (rescale (odd 24 false t (125 - z) 149) false (t * 2 ^ (125 - z)) (2 ^ 149) (kept L v) (2 ^ L) (pow_pos 149)
        (scaled L v z wide (zeros_lt L v positive below)) (odd_sign 24 false t (125 - z) 149))

pub shortfall : {L : ℕ} → WideEnough L → {v : ℕ} → v < 2 ^ L → Shortfall L v (lower_single L v)
shortfall {L} wide {v} below = record {
  kept = kept L v;
  value = single-value wide below;
  not_above = div-mul-le_self v (2 ^ cut L v);
  short = λ few. subst (λ (k : ℕ). k < 2 ^ cut L v) (rest v (2 ^ cut L v)) (mod-lt v (pow_pos (cut L v)));
  nothing_lost = λ many. let none : cut L v ≡ 0 = omega arith in uncut v (cut L v) none;
}
  where
    rest : (v n : ℕ) → v % n ≡ v - v / n * n
    rest v n = omega (arith, div-add-mod' v n)

-- the whole part of 2 ^ n times a value, from any fraction that has the value
whole_part : (x : Float) (a c n : ℕ) → 0 < c → HasValue x false a c → InStrip n (a * 2 ^ n / c) x
whole_part nan a c n positive value = value
whole_part (inf t) a c n positive value = value
whole_part (fin t m e) a c n positive value = (
  value.0,
  div_same (m * up e * 2 ^ n) (down e) (a * 2 ^ n) c (down_pos e) positive (omega (arith, ap (λ (x : ℕ). x * 2 ^ n) value.1)),
)

-- the n highest digits are among the kept ones
kept_top : (L v n s : ℕ) → n ≤ L → s ≤ L - n → v / 2 ^ s * 2 ^ s * 2 ^ n / 2 ^ L ≡ top 2 L n v
kept_top L v n s few less =
    let q = v / 2 ^ s in
    let r = L - n - s in
    let all : s + n + r ≡ L = omega arith in
    let same : q * 2 ^ s * 2 ^ n * 2 ^ r ≡ q * 2 ^ L = omega (arith, ap (λ (x : ℕ). q * x) (three_powers s n r L all)) in
    div_same (q * 2 ^ s * 2 ^ n) (2 ^ L) q (2 ^ r) (pow_pos L) (pow_pos r) same
    ∙ shr-shr v s r ∙ ap (λ (j : ℕ). v / 2 ^ j) (omega arith)

pub strip : {L : ℕ} → WideEnough L → {v : ℕ} → v < 2 ^ L → (n : ℕ) → n ≤ 24 → InStrip n (top 2 L n v) (lower_single L v)
strip {L} wide {v} below n few =
    let least = wide.at_least in
    subst (λ (k : ℕ). InStrip n k (lower_single L v)) (kept_top L v n (cut L v) (omega arith) (omega arith))
    (whole_part (lower_single L v) (kept L v) (2 ^ L) n (pow_pos L) (single-value wide below))
