-- C-13's table of exponent fields by its rule, and what a `match` on a number knows in its last arm. Assumes nothing.
use mathlib.Core.Path.{◌≡◌, refl, sym, ap, ◌∙◌, subst}
use mathlib.Core.Logic.{◌≢◌}
use mathlib.Core.Bool.{Bool, true, false, cond}
use mathlib.Core.List.{List, map}
use Prim.Native.Nat.{ℕ, zero, suc, ◌-◌, ◌≤◌, zero-le}
use native.Mathlib.Nat.{le_refl, zero-add}
use native.Mathlib.Omega.{arith}
use borrow.Author.Tests.{lt-ltb}
use lib.Dec.{ltb}
use lib.ListN.{length, get_or}
use Rattle.ranges.specs.Range.{range}
use Rattle.ranges.proofs.Range.{getD_each}
use Rattle.unit.specs.Parts.{exponent_fields, exponent_field}

-- z is none of the numbers below n, as a `match` tells it to its last arm
abbrev NoneBelow : ℕ → ℕ → Type 0
NoneBelow zero z = Unit {0}
NoneBelow (suc n) z = NoneBelow n z × (z ≢ n)

pub none_below : (n z : ℕ) → NoneBelow n z → n ≤ z
none_below zero z none = zero-le
none_below (suc n) z none =
    let other = none.1 in
    omega (arith, none_below n z none.0)

abbrev rule : ℕ → ℕ
rule z = cond (ltb z 32) (126 - z) 0

pub entries : length exponent_fields ≡ 33
unfolding exponent_fields
entries = refl

-- one test, computed over the whole table
tested : exponent_fields ≡ map rule (range 0 33)
unfolding exponent_fields range
tested = refl

by_rule : (z : ℕ) → z ≤ 32 → exponent_field z ≡ rule z
by_rule z small =
    ap (λ (table : List ℕ). get_or table z 0) tested ∙ getD_each rule 0 33 z 0 (omega arith) ∙ ap rule (zero-add z)

pub field_rule : (z : ℕ) → z ≤ 31 → exponent_field z ≡ 126 - z
field_rule z small = by_rule z (omega arith) ∙ ap (λ (b : Bool). cond b (126 - z) 0) (lt-ltb z 32 (omega arith))

pub field_at_32 : exponent_field 32 ≡ 0
field_at_32 = by_rule 32 (le_refl 32)

pub field_le : {e z : ℕ} → z ≤ 32 → e ≡ exponent_field z → e ≤ 126
field_le {e} {z} small is = subst (λ (x : ℕ). x ≤ 126) (sym (is ∙ by_rule z small)) (either (ltb z 32))
  where
    either : (b : Bool) → cond b (126 - z) 0 ≤ 126
    either true = omega arith
    either false = zero-le
