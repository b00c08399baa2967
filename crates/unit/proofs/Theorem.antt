-- The one term for specs/Theorem. Assumes nothing.
use mathlib.Core.Path.{◌≡◌, refl, subst}
use mathlib.Core.Bool.{false}
use Prim.Native.Nat.{ℕ, ◌^◌, ◌≤◌, ◌<◌}
use lib.IntN.{pos}
use lib.Dec.{lit<}
use lib.Ieee.{fin, of_bits}
use Rattle.net.specs.Sequence.{top}
use Rattle.plan.proofs.Lists.{steps}
use Rattle.unit.specs.Quotient.{nearest_double, lower_single}
use Rattle.unit.specs.Word.{numerator, width, double, single}
use Rattle.unit.specs.Singles.{visit_singles}
use Rattle.unit.specs.Theorem.{WideEnough, InStrip, Rounded, Theorems}
use Rattle.unit.proofs.Leading.{zeros_iff}
use Rattle.unit.proofs.Patterns.{bits-written}
use Rattle.unit.proofs.Doubles.{double-value}
use Rattle.unit.proofs.Kept as K
use Rattle.unit.proofs.Largest.{single-largest}
use Rattle.unit.proofs.Table.{entries, field_rule, field_at_32}
use Rattle.unit.proofs.Parts.{laid_out}
use Rattle.unit.proofs.Numerator.{wide_enough, numerator_lt, numerator-top}

quotients : {L : ℕ} → WideEnough L → {v : ℕ} → v < 2 ^ L → Rounded L v (nearest_double L v) (lower_single L v)
quotients enough below = record {
  exact = double-value enough.at_most below;
  largest = single-largest enough below;
  shortfall = K.shortfall enough below;
  strip = K.strip enough below;
}

of_word : (w : ℕ) → w < 2 ^ 32 → Rounded width (numerator w) (double w) (single w)
of_word w below = quotients wide_enough (numerator_lt w below)

strip : (w : ℕ) → w < 2 ^ 32 → (n : ℕ) → n ≤ 24 → InStrip n (top 2 32 n w) (single w)
strip w below n few = subst (λ (k : ℕ). InStrip n k (single w)) (numerator-top w n few) ((of_word w below).strip n few)

zero : single 0 ≡ fin false 0 (pos 0)
unfolding of_bits
zero = refl

pub theorems : Theorems
theorems = record {
  quotients = quotients;
  exact = λ w below. (of_word w below).exact;
  largest = λ w below. (of_word w below).largest;
  shortfall = λ w below. (of_word w below).shortfall;
  strip = strip;
  bits = λ w below. bits-written wide_enough.at_least (numerator_lt w below);
  entries = entries;
  field_rule = field_rule;
  field_at_32 = field_at_32;
  words_of = zeros_iff 32;
  laid_out = laid_out;
  zero_bits = bits-written wide_enough.at_least (numerator_lt 0 (lit< tt));
  zero = zero;
  steps = λ S start count w accepts n. steps start count w accepts n (visit_singles S);
}
