-- What is proved of digits, for all numbers. First the statements, as records; at the end `Theorems`, the whole list with the assumption
-- of each, of which proofs/Theorem gives one term.
use Rattle.std.specs.Prelude.{◌≡◌, ℕ, suc, ◌+◌, ◌-◌, ◌*◌, ◌/◌, ◌%◌, ◌^◌, ◌≤◌, ◌<◌}
use Rattle.std.specs.Int.Bits.{bit_xor}
use Rattle.digits.specs.Digits.{digit, from_digits, reversed, plus, minus, times}

-- a number is determined by its digits, one below b ^ w by the lowest w; and digits make a number
pub record Determined (b : ℕ) : Type 0 where
  pub by_digits : (m n : ℕ) → ((k : ℕ) → digit b k m ≡ digit b k n) → m ≡ n
  pub by_lowest : (w m n : ℕ) → m < b ^ w → n < b ^ w → ((k : ℕ) → k < w → digit b k m ≡ digit b k n) → m ≡ n
  pub from_digits_digit : (w k : ℕ) (d : ℕ → ℕ) → k < w → digit b k (from_digits b w d) ≡ d k % b
  pub from_digits_below : (w : ℕ) (d : ℕ → ℕ) → from_digits b w d < b ^ w

-- what the three operations do at each digit; with `Determined` this says all of them
pub record DigitByDigit (b : ℕ) : Type 0 where
  pub plus_digit : (m n k : ℕ) → digit b k (plus b m n) ≡ (digit b k m + digit b k n) % b
  pub minus_digit : (m n k : ℕ) → digit b k (minus b m n) ≡ (digit b k m + (b - digit b k n)) % b
  pub times_digit : (t n k : ℕ) → digit b k (times b t n) ≡ t * digit b k n % b

-- the sum is a commutative group, and the difference is its difference
pub record CommutativeGroup (b : ℕ) : Type 0 where
  pub associative : (m n p : ℕ) → plus b (plus b m n) p ≡ plus b m (plus b n p)
  pub commutative : (m n : ℕ) → plus b m n ≡ plus b n m
  pub neutral : (n : ℕ) → plus b n 0 ≡ n
  pub taken_added : (m n : ℕ) → plus b (minus b m n) n ≡ m
  pub added_taken : (m n : ℕ) → minus b (plus b m n) n ≡ m

-- quotient and remainder by a power of b are additive, so both parts of a number are added apart
pub record Parts (b : ℕ) : Type 0 where
  pub plus_quotient : (k m n : ℕ) → plus b m n / b ^ k ≡ plus b (m / b ^ k) (n / b ^ k)
  pub plus_remainder : (k m n : ℕ) → plus b m n % b ^ k ≡ plus b (m % b ^ k) (n % b ^ k)
  pub minus_quotient : (k m n : ℕ) → minus b m n / b ^ k ≡ minus b (m / b ^ k) (n / b ^ k)
  pub minus_remainder : (k m n : ℕ) → minus b m n % b ^ k ≡ minus b (m % b ^ k) (n % b ^ k)
  pub plus_below : (k m n : ℕ) → m < b ^ k → n < b ^ k → plus b m n < b ^ k
  pub minus_below : (k m n : ℕ) → m < b ^ k → n < b ^ k → minus b m n < b ^ k

-- in base two the sum and the difference are the exclusive or of the kit's library
pub record ExclusiveOr : Type 0 where
  pub plus_is : (m n : ℕ) → plus 2 m n ≡ bit_xor m n
  pub minus_is : (m n : ℕ) → minus 2 m n ≡ bit_xor m n

-- The reversal, digit by digit, and its laws: of two parts that are joined, of one digit more at either end, twice, by the reversal
-- of more digits, and of a sum. Digits above the n lowest do not count.
pub record Reversal (b : ℕ) : Type 0 where
  pub digits : (n i k : ℕ) → k < n → digit b k (reversed b n i) ≡ digit b (n - suc k) i
  pub below : (n i : ℕ) → reversed b n i < b ^ n
  pub joined : (m n k p : ℕ) → p < b ^ m → reversed b (m + n) (k * b ^ m + p) ≡ reversed b m p * b ^ n + reversed b n k
  pub lowest : (n i : ℕ) → reversed b (suc n) i ≡ i % b * b ^ n + reversed b n (i / b)
  pub highest : (n i : ℕ) → reversed b (suc n) i ≡ reversed b n i * b + digit b n i
  pub twice : (n i : ℕ) → i < b ^ n → reversed b n (reversed b n i) ≡ i
  pub shorter : (m n p : ℕ) → p < b ^ m → reversed b (m + n) p / b ^ n ≡ reversed b m p
  pub remainder : (m n i : ℕ) → n ≤ m → reversed b n (i % b ^ m) ≡ reversed b n i
  pub additive : (n i j : ℕ) → reversed b n (plus b i j) ≡ plus b (reversed b n i) (reversed b n j)

pub record Theorems : Type 0 where
  pub determined : {b : ℕ} → 1 < b → Determined b
  pub digit_by_digit : {b : ℕ} → 1 < b → DigitByDigit b
  pub group : {b : ℕ} → 1 < b → CommutativeGroup b
  pub parts : {b : ℕ} → 1 < b → Parts b
  pub exclusive_or : ExclusiveOr
  pub reversal : {b : ℕ} → 1 < b → Reversal b
