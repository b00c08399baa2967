-- In base two the sum and the difference without carries are the exclusive or of the kit's library, and a multiple is a product. Assumes nothing.
use mathlib.Core.Path.{◌≡◌, refl, sym, ap, ◌∙◌}
use Prim.Native.Nat.{ℕ, zero, suc, ◌+◌, ◌*◌, ◌/◌, ◌%◌, ◌^◌, ◌<◌}
use native.Mathlib.Omega.{arith}
use lib.Bits.{bit_xor, differ, xor_step, xor_shr}
use Rattle.digits.specs.Digits.{digit, plus, minus, times}
use Rattle.digits.proofs.Digit.{ext}
use Rattle.digits.proofs.Arithmetic.{digit-plus, digit-minus, times_zero, times-one}

pub one_lt_two : 1 < 2
one_lt_two = omega arith

-- two bits differ when their sum is odd
differ-bits : (x y : ℕ) → x < 2 → y < 2 → differ x y ≡ (x + y) % 2
differ-bits zero y hx hy = omega arith
differ-bits (suc zero) zero hx hy = refl
differ-bits (suc zero) (suc zero) hx hy = refl
differ-bits (suc zero) (suc (suc y)) hx hy = omega arith
differ-bits (suc (suc x)) y hx hy = omega arith

xor_odd : (m n : ℕ) → bit_xor m n % 2 ≡ (m % 2 + n % 2) % 2
xor_odd m n = omega (arith, xor_step m n, differ-bits (m % 2) (n % 2) (omega arith) (omega arith))

pub digit_xor : (m n k : ℕ) → digit 2 k (bit_xor m n) ≡ (digit 2 k m + digit 2 k n) % 2
digit_xor m n k = ap (λ (x : ℕ). x % 2) (xor_shr m n k) ∙ xor_odd (m / 2 ^ k) (n / 2 ^ k)

pub plus-two : (m n : ℕ) → plus 2 m n ≡ bit_xor m n
plus-two m n = ext one_lt_two (plus 2 m n) (bit_xor m n) (λ k. digit-plus one_lt_two m n k ∙ sym (digit_xor m n k))

pub minus-two : (m n : ℕ) → minus 2 m n ≡ bit_xor m n
minus-two m n = ext one_lt_two (minus 2 m n) (bit_xor m n) (λ k. digit-minus one_lt_two m n k ∙ omega (arith, digit_xor m n k))

pub times-two : (t n : ℕ) → t < 2 → times 2 t n ≡ t * n
times-two zero n h = times_zero one_lt_two n ∙ omega arith
times-two (suc zero) n h = times-one one_lt_two n ∙ omega arith
times-two (suc (suc t)) n h = absurd (omega arith)
