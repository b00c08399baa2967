-- Products of powers of two by their exponents, and a value as another fraction. Assumes nothing.
use mathlib.Core.Path.{◌≡◌, refl, sym, ap, ◌∙◌}
use mathlib.Core.Bool.{Bool}
use Prim.Native.Nat.{ℕ, ◌+◌, ◌*◌, ◌^◌, ◌<◌}
use native.Mathlib.Nat.{mul_right_comm, eq_of_mul-eq-mul_right}
use lib.Pow.{pow-add}
use lib.Ieee.{Float, nan, inf, fin, up, down}
use lib.Ieee.Exact.{HasValue}

pub powers : (i j k : ℕ) → i + j ≡ k → 2 ^ i * 2 ^ j ≡ 2 ^ k
powers i j k e = sym (pow-add 2 i j) ∙ ap (λ (n : ℕ). 2 ^ n) e

pub three_powers : (i j k l : ℕ) → i + j + k ≡ l → 2 ^ i * 2 ^ j * 2 ^ k ≡ 2 ^ l
three_powers i j k l e = ap (λ (n : ℕ). n * 2 ^ k) (powers i j (i + j) refl) ∙ powers (i + j) k l e

-- a * d = b * c: a / c is b / d
pub rescale : (x : Float) (s : Bool) (a c b d : ℕ) → 0 < c → a * d ≡ b * c → HasValue x s a c → HasValue x s b d
rescale nan s a c b d p h value = value
rescale (inf t) s a c b d p h value = value
rescale (fin t m e) s a c b d p h value = (
  value.0,
  eq_of_mul-eq-mul_right c p (m * up e * d) (b * down e)
      (mul_right_comm (m * up e) d c ∙ ap (λ (x : ℕ). x * d) value.1 ∙ mul_right_comm a (down e) d
      ∙ ap (λ (x : ℕ). x * down e) h ∙ mul_right_comm b c (down e)),
)
