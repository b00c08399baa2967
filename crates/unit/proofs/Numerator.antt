-- All that unit numbers ask of the exact value numerator w / 2 ^ width of a word. Assumes nothing.
use mathlib.Core.Path.{◌≡◌, refl, ap, ◌∙◌}
use Prim.Native.Nat.{ℕ, ◌^◌, ◌≤◌, ◌<◌}
use native.Mathlib.Omega.{arith}
use lib.Dec.{lit≤}
use lib.Count.{count_leading_zeros, leading_of_zero}
use Rattle.net.specs.Sequence.{top}
use Rattle.unit.specs.Word.{numerator, width}
use Rattle.unit.specs.Theorem.{WideEnough}
use Rattle.unit.proofs.Leading.{zeros_lt}

pub wide_enough : WideEnough width
wide_enough = record { at_least = lit≤ tt; at_most = lit≤ tt }

pub numerator_lt : (w : ℕ) → w < 2 ^ 32 → numerator w < 2 ^ width
numerator_lt w below = below

-- it lies in the word's own strip
pub numerator-top : (w n : ℕ) → n ≤ 24 → top 2 width n (numerator w) ≡ top 2 32 n w
numerator-top w n few = refl

-- it has the word's own number of leading zeros, 32 exactly where it is 0
pub numerator-zeros : (w : ℕ) → count_leading_zeros width (numerator w) ≡ count_leading_zeros 32 w
numerator-zeros w = refl

pub numerator-none : (w : ℕ) → numerator w ≡ 0 → count_leading_zeros 32 w ≡ 32
numerator-none w none = ap (count_leading_zeros 32) none ∙ leading_of_zero 32

pub numerator-some : (w : ℕ) → w < 2 ^ 32 → 0 < numerator w → count_leading_zeros 32 w ≤ 31
numerator-some w below some = let few = zeros_lt 32 w some below in omega arith
