-- Digits in base b, digit 0 the lowest, and arithmetic digit by digit, without carries. Numbers have no width.
use Rattle.std.specs.Prelude.{ℕ, zero, suc, ◌+◌, ◌-◌, ◌*◌, ◌/◌, ◌%◌, ◌^◌}

-- digit k of n
abbrev pub digit : ℕ → ℕ → ℕ → ℕ
digit b k n = n / b ^ k % b

-- the number of w digits whose digit k is d k modulo b
unfoldable pub from_digits : ℕ → ℕ → (ℕ → ℕ) → ℕ
from_digits b zero d = 0
from_digits b (suc w) d = from_digits b w (λ k. d (suc k)) * b + d 0 % b

-- the n lowest digits of i in the opposite order (for i of n digits: its radical inverse times b ^ n)
unfoldable pub reversed : ℕ → ℕ → ℕ → ℕ
reversed b n i = from_digits b n (λ k. digit b (n - suc k) i)

-- The number whose digits are f of the digits of m and of n, modulo b, where f 0 0 is 0 modulo b. The fuel w is enough where it is
-- not below m and n; the recursion stops as soon as both are 0, so it computes.
unfoldable pub digitwise : ℕ → (ℕ → ℕ → ℕ) → ℕ → ℕ → ℕ → ℕ
digitwise b f zero m n = 0
digitwise b f (suc w) m n = elim (m + n) [ zero ↦ 0 | suc s ↦ digitwise b f w (m / b) (n / b) * b + f (m % b) (n % b) % b ]

-- the sum without carries, the difference without borrows, and the multiple by t
unfoldable pub plus : ℕ → ℕ → ℕ → ℕ
plus b m n = digitwise b (λ x y. x + y) (m + n) m n

unfoldable pub minus : ℕ → ℕ → ℕ → ℕ
minus b m n = digitwise b (λ x y. x + (b - y)) (m + n) m n

unfoldable pub times : ℕ → ℕ → ℕ → ℕ
times b t n = digitwise b (λ x y. t * x) n n 0
