-- The one term for specs/Theorem. Assumes nothing.
use Prim.Native.Nat.{ℕ, ◌<◌}
use Rattle.digits.specs.Theorem.{Determined, DigitByDigit, CommutativeGroup, Parts, ExclusiveOr, Reversal, Theorems}
use Rattle.digits.proofs.Digit as D
use Rattle.digits.proofs.Arithmetic as A
use Rattle.digits.proofs.Two as T
use Rattle.digits.proofs.Reversed as R

determined : {b : ℕ} → 1 < b → Determined b
determined big = record {
  by_digits = D.ext big;
  by_lowest = D.ext_below big;
  from_digits_digit = D.digit-from_digits big;
  from_digits_below = D.from_digits_lt big;
}

digit_by_digit : {b : ℕ} → 1 < b → DigitByDigit b
digit_by_digit big = record { plus_digit = A.digit-plus big; minus_digit = A.digit-minus big; times_digit = A.digit-times big }

group : {b : ℕ} → 1 < b → CommutativeGroup b
group big = record {
  associative = A.plus_assoc big;
  commutative = A.plus_comm big;
  neutral = A.plus-zero big;
  taken_added = A.minus_plus big;
  added_taken = A.plus-minus big;
}

parts : {b : ℕ} → 1 < b → Parts b
parts big = record {
  plus_quotient = A.plus-div big;
  plus_remainder = A.plus-mod big;
  minus_quotient = A.minus-div big;
  minus_remainder = A.minus-mod big;
  plus_below = A.plus_lt big;
  minus_below = A.minus_lt big;
}

exclusive_or : ExclusiveOr
exclusive_or = record { plus_is = T.plus-two; minus_is = T.minus-two }

reversal : {b : ℕ} → 1 < b → Reversal b
reversal big = record {
  digits = R.digit-reversed big;
  below = R.reversed_lt big;
  joined = R.reversed-join big;
  lowest = R.reversed-suc big;
  highest = R.reversed-more big;
  twice = R.reversed-twice big;
  shorter = R.reversed-short big;
  remainder = R.reversed-mod big;
  additive = R.reversed-plus big;
}

pub theorems : Theorems
theorems = record {
  determined = determined;
  digit_by_digit = digit_by_digit;
  group = group;
  parts = parts;
  exclusive_or = exclusive_or;
  reversal = reversal;
}
