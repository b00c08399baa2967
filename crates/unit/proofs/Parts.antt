-- The bits of every word's single by exponent field and stored digits, and what they mean. Assumes nothing.
use mathlib.Core.Path.{◌≡◌, refl, sym, ap, ◌∙◌, subst}
use mathlib.Core.Logic.{⊎_elim}
use mathlib.Core.Bool.{false}
use Prim.Native.Nat.{ℕ, zero, suc, ◌+◌, ◌-◌, ◌*◌, ◌/◌, ◌%◌, ◌^◌, ◌≤◌, ◌<◌}
use native.Mathlib.Nat.{eq-zero-or-pos, zero-mul, zero-div, mul_assoc, mod-lt}
use native.Mathlib.Omega.{arith}
use lib.Count.{count_leading_zeros, leading_le}
use lib.Pow.{pow_pos}
use lib.Ieee.{Float, binary32, odd, of_fields, of_bits}
use lib.Ieee.Exact.{HasValue, odd_sign}
use Rattle.unit.specs.Quotient.{leading_digits, lower_bits}
use Rattle.unit.specs.Parts.{exponent_field, stored_digits}
use Rattle.unit.specs.Word.{numerator, width, single_bits, single}
use Rattle.unit.specs.Theorem.{WideEnough, LaidOut}
use Rattle.unit.proofs.Powers.{powers, rescale}
use Rattle.unit.proofs.Leading.{zeros_lt, digits_lt, digits_ge}
use Rattle.unit.proofs.Patterns.{positive-bits, parts-read, normal}
use Rattle.unit.proofs.Table.{field_rule, field_at_32, field_le}
use Rattle.unit.proofs.Numerator.{wide_enough, numerator_lt, numerator-zeros, numerator-none, numerator-some}

-- ---- the bits

-- of a number above 0: the leading one has added 1 to the exponent field, and is not stored
positive-parts : {L v : ℕ} → WideEnough L → 0 < v → v < 2 ^ L → lower_bits L v ≡ (126 - count_leading_zeros L v) * 2 ^ 23 + stored_digits L v
positive-parts {L} {v} wide positive below =
    let most = wide.at_most in
    let few = zeros_lt L v positive below in
    let lo = digits_ge L v positive below wide.at_least in
    let hi = digits_lt L v below wide.at_least in
    positive-bits L v positive ∙ carried (count_leading_zeros L v) (leading_digits L v) (omega arith) lo hi
  where
    carried : (z t : ℕ) → z ≤ 125 → 2 ^ 23 ≤ t → t < 2 ^ 24 → (125 - z) * 2 ^ 23 + t ≡ (126 - z) * 2 ^ 23 + t % 2 ^ 23
    carried z t small lo hi = omega arith

-- 0 stores no digit
stored-none : (L : ℕ) → stored_digits L 0 ≡ 0
stored-none L =
    ap (λ (n : ℕ). n / 2 ^ (L - 24) % 2 ^ 23) (zero-mul (2 ^ count_leading_zeros L 0)) ∙ ap (λ (n : ℕ). n % 2 ^ 23) (zero-div (2 ^ (L - 24)))

abbrev Together : ℕ → Type 0
Together w = single_bits w ≡ exponent_field (count_leading_zeros 32 w) * 2 ^ 23 + stored_digits width (numerator w)

pub together : (w : ℕ) → w < 2 ^ 32 → Together w
together w below = ⊎_elim none some (eq-zero-or-pos (numerator w))
  where
    rest : ℕ
    rest = stored_digits width (numerator w)

    none : numerator w ≡ 0 → Together w
    none e =
        ap (lower_bits width) e ∙ sym (ap (λ (n : ℕ). 0 * 2 ^ 23 + n) (ap (stored_digits width) e ∙ stored-none width))
        ∙ ap (λ (f : ℕ). f * 2 ^ 23 + rest) (sym (ap exponent_field (numerator-none w e) ∙ field_at_32))

    some : 0 < numerator w → Together w
    some positive =
        positive-parts wide_enough positive (numerator_lt w below)
        ∙ ap (λ (z : ℕ). (126 - z) * 2 ^ 23 + rest) (numerator-zeros w)
        ∙ ap (λ (f : ℕ). f * 2 ^ 23 + rest) (sym (field_rule (count_leading_zeros 32 w) (numerator-some w below positive)))

-- ---- what the parts mean

value : (e t : ℕ) → 0 < e → e ≤ 126 → HasValue (of_fields binary32 false e t) false (2 ^ 23 + t) (2 ^ (23 + (127 - e)))
value zero t some small = absurd (omega arith)
value (suc k) t some small =
    let x = odd 24 false (2 ^ 23 + t) k 149 in
    let all : k + (23 + (127 - suc k)) ≡ 149 = omega arith in
    subst (λ (y : Float). HasValue y false (2 ^ 23 + t) (2 ^ (23 + (127 - suc k)))) (sym (normal k t (omega arith)))
    (rescale x false ((2 ^ 23 + t) * 2 ^ k) (2 ^ 149) (2 ^ 23 + t) (2 ^ (23 + (127 - suc k))) (pow_pos 149)
    (mul_assoc (2 ^ 23 + t) (2 ^ k) (2 ^ (23 + (127 - suc k))) ∙ ap (λ (n : ℕ). (2 ^ 23 + t) * n) (powers k (23 + (127 - suc k)) 149 all))
    (odd_sign 24 false (2 ^ 23 + t) k 149))

pub laid_out : (w : ℕ) → w < 2 ^ 32 → LaidOut (single w) (single_bits w) (exponent_field (count_leading_zeros 32 w)) (stored_digits width
    (numerator w))
laid_out w below =
    let z = count_leading_zeros 32 w in
    let e = exponent_field z in
    let t = stored_digits width (numerator w) in
    let small = field_le (leading_le 32 w) refl in
    let short : t < 2 ^ 23 = mod-lt (leading_digits width (numerator w)) (pow_pos 23) in
    let read : single w ≡ of_fields binary32 false e t = ap (of_bits binary32) (together w below) ∙ parts-read e t small short in
    record {
      bits = together w below;
      stored = short;
      below_bias = omega arith;
      sign = ap (λ (b : ℕ). b / 2 ^ 31) (together w below) ∙ no_sign e t small short;
      field = ap (λ (b : ℕ). b / 2 ^ 23) (together w below) ∙ above e t short;
      reading = read;
      value = λ some. subst (λ (x : Float). HasValue x false (2 ^ 23 + t) (2 ^ (23 + (127 - e)))) (sym read) (value e t some small);
    }
  where
    no_sign : (e t : ℕ) → e ≤ 126 → t < 2 ^ 23 → (e * 2 ^ 23 + t) / 2 ^ 31 ≡ 0
    no_sign e t small short = omega arith

    above : (e t : ℕ) → t < 2 ^ 23 → (e * 2 ^ 23 + t) / 2 ^ 23 ≡ e
    above e t short = omega arith
