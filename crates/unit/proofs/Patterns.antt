-- The bits of the single: they are no NaN's, the single has them, and what IEEE 754 reads in them. Assumes nothing.
use mathlib.Core.Path.{◌≡◌, sym, ap, ◌∙◌, subst}
use mathlib.Core.Logic.{⊎_elim, ◌≢◌}
use mathlib.Core.Bool.{Bool, false, cond, not}
use Prim.Native.Nat.{ℕ, suc, ◌+◌, ◌-◌, ◌*◌, ◌/◌, ◌%◌, ◌^◌, ◌≤◌, ◌<◌}
use native.Mathlib.Nat.{lt_of_lt_of_le, eq-zero-or-pos}
use native.Mathlib.Omega.{arith}
use borrow.Author.Tests.{ne_eqb, le-ltb, lt-leb}
use lib.Dec.{T, eqb, leb, lit<, lit≤}
use lib.Count.{count_leading_zeros}
use lib.Ieee.{nan, inf, binary32, odd, of_fields, of_bits, to_bits, nan_bits}
use lib.Ieee.Bits.{nan_bits_above, nan_bits_is, to_bits-of_bits}
use Rattle.unit.specs.Quotient.{leading_digits, lower_bits, lower_single}
use Rattle.unit.proofs.Leading.{digits_lt}

pub positive-bits : (L v : ℕ) → 0 < v → lower_bits L v ≡ (125 - count_leading_zeros L v) * 2 ^ 23 + leading_digits L v
positive-bits L v positive =
    let other : v ≢ 0 = omega arith in
    ap (λ (b : Bool). cond b 0 ((125 - count_leading_zeros L v) * 2 ^ 23 + leading_digits L v)) (ne_eqb v 0 other)

-- all are below the pattern of 1
pub bits_lt : {L v : ℕ} → 24 ≤ L → v < 2 ^ L → lower_bits L v < 127 * 2 ^ 23
bits_lt {L} {v} least below = ⊎_elim none some (eq-zero-or-pos v)
  where
    none : v ≡ 0 → lower_bits L v < 127 * 2 ^ 23
    none e = subst (λ (n : ℕ). lower_bits L n < 127 * 2 ^ 23) (sym e) (lit< tt)

    some : 0 < v → lower_bits L v < 127 * 2 ^ 23
    some positive =
        let digits = digits_lt L v below least in
        subst (λ (n : ℕ). n < 127 * 2 ^ 23) (sym (positive-bits L v positive)) (omega arith)

pub not_nan : {L v : ℕ} → 24 ≤ L → v < 2 ^ L → T (not (nan_bits binary32 (lower_bits L v)))
not_nan {L} {v} least below =
    let n = lower_bits L v in
    let small = bits_lt least below in
    subst (λ (b : Bool). T (not b)) (sym (nan_bits_above binary32 n ∙ le-ltb (255 * 2 ^ 23) (n % 2 ^ 31) (bound n small))) tt
  where
    bound : (n : ℕ) → n < 127 * 2 ^ 23 → n % 2 ^ 31 ≤ 255 * 2 ^ 23
    bound n small = omega arith

pub bits-written : {L v : ℕ} → 24 ≤ L → v < 2 ^ L → to_bits binary32 (lower_single L v) ≡ lower_bits L v
bits-written {L} {v} least below =
    let n = lower_bits L v in
    to_bits-of_bits binary32 n (lt_of_lt_of_le (bits_lt least below) (lit≤ tt))
    (subst (λ (b : Bool). T (not b)) (nan_bits_is binary32 n) (not_nan least below))

-- the sign 0, the exponent field e and the stored digits t are read as such
pub parts-read : (e t : ℕ) → e ≤ 126 → t < 2 ^ 23 → of_bits binary32 (e * 2 ^ 23 + t) ≡ of_fields binary32 false e t
unfolding of_bits
parts-read e t small short =
    let b = e * 8388608 + t in
    let sign : leb 2147483648 b ≡ false = lt-leb 2147483648 b (omega arith) in
    let field : b % 2147483648 / 8388608 ≡ e = omega arith in
    let low : b % 8388608 ≡ t = omega arith in
    ap (λ (s : Bool). of_fields binary32 s (b % 2147483648 / 8388608) (b % 8388608)) sign
    ∙ ap (λ (x : ℕ). of_fields binary32 false x (b % 8388608)) field
    ∙ ap (λ (x : ℕ). of_fields binary32 false e x) low

-- a field that is not 0 has a leading one before the stored digits
pub normal : (k t : ℕ) → k ≤ 125 → of_fields binary32 false (suc k) t ≡ odd 24 false (2 ^ 23 + t) k 149
unfolding of_fields
normal k t small =
    let finite : suc k ≢ 255 = omega arith in
    ap (λ (c : Bool). cond c (cond (eqb t 0) (inf false) nan) (odd 24 false (8388608 + t) k 149)) (ne_eqb (suc k) 255 finite)

-- the value of 24 digits t, the highest not 0, that are added to the exponent field k
pub pattern : (k t : ℕ) → k ≤ 125 → 2 ^ 23 ≤ t → t < 2 ^ 24 → of_bits binary32 (k * 2 ^ 23 + t) ≡ odd 24 false t k 149
pattern k t small lo hi =
    let rest = t - 8388608 in
    let same : k * 8388608 + t ≡ suc k * 8388608 + rest = omega arith in
    let again : 8388608 + rest ≡ t = omega arith in
    ap (of_bits binary32) same ∙ parts-read (suc k) rest (omega arith) (omega arith) ∙ normal k rest small
    ∙ ap (λ (x : ℕ). odd 24 false x k 149) again
