-- The first number of a range that passes a test.
use Rattle.std.specs.Prelude.{Bool, true, false, ℕ, zero, suc}

-- the least number below n that passes the test, or n
unfoldable pub search : ℕ → (ℕ → Bool) → ℕ
search zero test = 0
search (suc n) test = elim (test 0) [ true ↦ 0 | false ↦ suc (search n (λ i. test (suc i))) ]
