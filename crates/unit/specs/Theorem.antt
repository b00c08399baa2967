-- What is proved of unit numbers. First the statements, of any number v / 2 ^ L; at the end `Theorems`, of which proofs/Theorem gives one term:
-- for every v and L within bounds, and for every word. `HasValue x false a c` (kit): x is finite, its sign is +, and it is a / c.
use Rattle.std.specs.Prelude.{◌≡◌, ◌↔◌, false, ℕ, ◌+◌, ◌-◌, ◌*◌, ◌/◌, ◌^◌, ◌≤◌, ◌<◌, T, pos, length, Float}
use Rattle.std.specs.Int.Count.{count_leading_zeros}
use Rattle.std.specs.Float.{nan, inf, fin, Format, binary32}
use Rattle.std.specs.Float.Ieee.{up, down, fits, le, of_fields, to_bits}
use Rattle.std.specs.Float.Ieee.Exact.{HasValue}
use Rattle.ranges.specs.Walk.{Walk, answers, visits_then_end}
use Rattle.net.specs.Sequence.{Sequence, top}
use Rattle.refusal.specs.Outcome.{accepted}
use Rattle.word.specs.Index.{index_count, last_index}
use Rattle.plan.specs.Walk.{open_outcome}
use Rattle.unit.specs.Quotient.{nearest_double, lower_single}
use Rattle.unit.specs.Parts.{exponent_fields, exponent_field, stored_digits}
use Rattle.unit.specs.Word.{numerator, width, double, single_bits, single}
use Rattle.unit.specs.Singles.{visit_singles}

-- L digits are enough for the 24 of a single, and no more than the 53 of a double
pub record WideEnough (L : ℕ) : Type 0 where
  pub at_least : 24 ≤ L
  pub at_most : L ≤ 53

-- x is the largest value of the format that is not above y: among all values of the format, negative ones, -0 and the infinities too (`le` is
-- false where one side is no number)
pub record Largest (f : Format) (x y : Float) : Type 0 where
  pub in_format : T (fits f x)
  pub not_above : T (le x y)
  pub none_between : (u : Float) → T (fits f u) → T (le u y) → T (le u x)

-- The single x is exactly `kept` parts in 2 ^ L. With z leading zeros among the L digits of v it falls short of v / 2 ^ L by less than
-- 2 ^ (L - 24 - z) parts where z < L - 24, and by none otherwise.
pub record Shortfall (L v : ℕ) (x : Float) : Type 0 where
  pub kept : ℕ
  pub value : HasValue x false kept (2 ^ L)
  pub not_above : kept ≤ v
  pub short : count_leading_zeros L v < L - 24 → v - kept < 2 ^ (L - 24 - count_leading_zeros L v)
  pub nothing_lost : L - 24 ≤ count_leading_zeros L v → kept ≡ v

-- the whole part of 2 ^ n * x is k: of the 2 ^ n equal strips from 0 to 1 (01's word; the field: elementary intervals of one axis), x lies
-- in strip k
abbrev pub InStrip : ℕ → ℕ → Float → Type 0
InStrip n k nan = ⊥
InStrip n k (inf s) = ⊥
InStrip n k (fin s m e) = (s ≡ false) × (m * up e * 2 ^ n / down e ≡ k)

-- v / 2 ^ L as the double d and as the single x: d is that number and x the largest single not above it; how far x falls short; and x lies
-- in the strip that the n highest digits of v name
pub record Rounded (L v : ℕ) (d x : Float) : Type 0 where
  pub exact : HasValue d false v (2 ^ L)
  pub largest : Largest binary32 x d
  pub shortfall : Shortfall L v x
  pub strip : (n : ℕ) → n ≤ 24 → InStrip n (top 2 L n v) x

-- The bits b of the single x, by IEEE 754 as the kit has it: from the top the sign, which is 0, the exponent field e, and the 23 stored digits t.
-- The kit reads these three (`of_fields`) as x. Where e is not 0 that is (1 + t / 2 ^ 23) * 2 ^ (e - 127): the field is the exponent with the
-- bias 127, and the leading one is not stored.
pub record LaidOut (x : Float) (b e t : ℕ) : Type 0 where
  pub bits : b ≡ e * 2 ^ 23 + t
  pub stored : t < 2 ^ 23
  pub below_bias : e < 127
  -- so that the highest digits of b are
  pub sign : b / 2 ^ 31 ≡ 0
  pub field : b / 2 ^ 23 ≡ e
  -- and what they mean
  pub reading : x ≡ of_fields binary32 false e t
  pub value : 0 < e → HasValue x false (2 ^ 23 + t) (2 ^ (23 + (127 - e)))

pub record Theorems : Type 0 where
  pub quotients : {L : ℕ} → WideEnough L → {v : ℕ} → v < 2 ^ L → Rounded L v (nearest_double L v) (lower_single L v)
  -- of every word w, whose exact value is numerator w / 2 ^ width: w / 2 ^ 32
  pub exact : (w : ℕ) → w < 2 ^ 32 → HasValue (double w) false (numerator w) (2 ^ width)
  pub largest : (w : ℕ) → w < 2 ^ 32 → Largest binary32 (single w) (double w)
  -- (01: by less than 2 ^ (8 - z) parts in 2 ^ 32 where z < 8, and by none otherwise)
  pub shortfall : (w : ℕ) → w < 2 ^ 32 → Shortfall width (numerator w) (single w)
  pub strip : (w : ℕ) → w < 2 ^ 32 → (n : ℕ) → n ≤ 24 → InStrip n (top 2 32 n w) (single w)
  pub bits : (w : ℕ) → w < 2 ^ 32 → to_bits binary32 (single w) ≡ single_bits w
  -- C-13: the table by its rule; the words of each entry, the smallest being 2 ^ (31 - z), and 0 at 32; and every word's single by the entry of
  -- its leading zeros
  pub entries : length exponent_fields ≡ 33
  pub field_rule : (z : ℕ) → z ≤ 31 → exponent_field z ≡ 126 - z
  pub field_at_32 : exponent_field 32 ≡ 0
  pub words_of : (z w : ℕ) → z ≤ 32 → w < 2 ^ 32 → (count_leading_zeros 32 w ≡ z) ↔ ((2 ^ (32 - z) / 2 ≤ w) × (w < 2 ^ (32 - z)))
  pub laid_out : (w : ℕ) → w < 2 ^ 32
      → LaidOut (single w) (single_bits w) (exponent_field (count_leading_zeros 32 w)) (stored_digits width (numerator w))
  -- of the word 0: +0.0
  pub zero_bits : to_bits binary32 (single 0) ≡ 0
  pub zero : single 0 ≡ fin false 0 (pos 0)
  -- ONE claim about the list of n steps with singles on a walk opened without refusal, steps after the end included
  pub steps : (S : Sequence) (start count : ℕ) (w : Walk) → open_outcome index_count start count ≡ accepted w
      → (n : ℕ) → answers (visit_singles S) last_index n w ≡ visits_then_end (visit_singles S) n start count
