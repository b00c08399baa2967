-- `digit_count`: a number from 10 ^ g on and below 10 ^ (g + 1) has g + 1 digits.
-- Assumes nothing.
use mathlib.Core.Path.{sym}
use native.Mathlib.Omega.{arith}
use Rattle.text.proofs.Numbers.{digits_of}
use Rattle.text.proofs.numerals.digit_count.Goals as goal

pub returns-then-n-ge1000 : goal.returns-then-n-ge1000
returns-then-n-ge1000 c = sym (digits_of 3 c.args.n (omega arith) (omega arith) (λ q. omega arith))

pub returns-then-n-ge100 : goal.returns-then-n-ge100
returns-then-n-ge100 c = sym (digits_of 2 c.args.n (omega arith) (omega arith) (λ q. omega arith))

pub returns-then-n-ge10 : goal.returns-then-n-ge10
returns-then-n-ge10 c = sym (digits_of 1 c.args.n (omega arith) (omega arith) (λ q. omega arith))

pub returns-then-n-lt10000 : goal.returns-then-n-lt10000
returns-then-n-lt10000 c = sym (digits_of 0 c.args.n (omega arith) (omega arith) (λ q. omega arith))

pub returns-then-n-lt100000 : goal.returns-then-n-lt100000
returns-then-n-lt100000 c = sym (digits_of 4 c.args.n (omega arith) (omega arith) (λ q. omega arith))

pub returns-then-n-lt1000000 : goal.returns-then-n-lt1000000
returns-then-n-lt1000000 c = sym (digits_of 5 c.args.n (omega arith) (omega arith) (λ q. omega arith))

pub returns-then-n-lt10000000 : goal.returns-then-n-lt10000000
returns-then-n-lt10000000 c = sym (digits_of 6 c.args.n (omega arith) (omega arith) (λ q. omega arith))

pub returns-then-n-lt100000000 : goal.returns-then-n-lt100000000
returns-then-n-lt100000000 c = sym (digits_of 7 c.args.n (omega arith) (omega arith) (λ q. omega arith))

pub returns-then-n-lt1000000000 : goal.returns-then-n-lt1000000000
returns-then-n-lt1000000000 c = sym (digits_of 8 c.args.n (omega arith) (omega arith) (λ q. omega arith))

pub returns : goal.returns
returns c = sym (digits_of 9 c.args.n (omega arith) (omega arith) (λ q. omega arith))
