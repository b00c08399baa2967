-- Steps of mask, shift and exclusive or on a word: each is additive, and so is a row of them. Assumes nothing.
use mathlib.Core.Path.{◌≡◌, sym, ap, ap₂, ◌∙◌}
use mathlib.Core.List.{List, [], ◌∷◌, map}
use Prim.Native.Nat.{ℕ, ◌+◌, ◌*◌, ◌/◌, ◌%◌, ◌^◌, ◌≤◌, ◌<◌, min}
use native.Mathlib.Numerals.{add-one}
use native.Mathlib.Omega.{arith}
use lib.Bits.{bit_xor, bit_and, and_step, and_shr}
use lib.ListN.{length, drop, get_or, drop_of_length-le}
use lib.Seq.{drop-cons}
use Rattle.digits.specs.Digits.{digit, reversed, plus}
use Rattle.digits.proofs.Digit.{digit_lt, ext}
use Rattle.digits.proofs.Arithmetic.{digit-plus}
use Rattle.digits.proofs.Two.{one_lt_two, plus-two}
use Rattle.net.specs.Generators.{product}
use Rattle.net.specs.Elimination.{Additive}
use Rattle.net.specs.Standard.{standard}
use Rattle.net.proofs.Standard.{iterated}
use Rattle.net.proofs.Additive.{same-additive, chain_additive, sum-additive, times-pow-additive, mod-pow-additive}
use Rattle.net.proofs.Columns.{additive-pascal}

-- ---- a mask is additive

and_odd : (m n : ℕ) → bit_and m n % 2 ≡ min (m % 2) (n % 2)
and_odd m n = omega (arith, and_step m n)

digit_and : (m n k : ℕ) → digit 2 k (bit_and m n) ≡ min (digit 2 k m) (digit 2 k n)
digit_and m n k = ap (λ (x : ℕ). x % 2) (and_shr m n k) ∙ and_odd (m / 2 ^ k) (n / 2 ^ k)

min-bits : (x y m : ℕ) → x < 2 → y < 2 → min ((x + y) % 2) m ≡ (min x m + min y m) % 2
min-bits x y m hx hy = omega arith

mask-additive : (mask : ℕ) → Additive 2 (λ x. bit_and x mask)
mask-additive mask = record {
  base = one_lt_two;
  splits = λ i j. ext one_lt_two (bit_and (plus 2 i j) mask) (plus 2 (bit_and i mask) (bit_and j mask)) (λ k.
      simp (digit_and, digit-plus one_lt_two)
      (min-bits (digit 2 k i) (digit 2 k j) (digit 2 k mask) (digit_lt one_lt_two k i) (digit_lt one_lt_two k j)));
}

-- ---- the steps

-- one step on a word of 32 bits, with the operators of the code
abbrev pub step : ℕ → ℕ → ℕ → ℕ
step mask width x = bit_xor x (bit_and x mask * 2 ^ width % 2 ^ 32)

step-additive : (mask width : ℕ) → Additive 2 (step mask width)
step-additive mask width = record {
  base = one_lt_two;
  splits = λ i j. sym (plus_step (plus 2 i j)) ∙ A.splits i j ∙ ap₂ (plus 2) (plus_step i) (plus_step j);
}
  where
    A : Additive 2 (λ x. plus 2 x (bit_and x mask * 2 ^ width % 2 ^ 32))
    A = sum-additive (same-additive one_lt_two) (chain_additive
        (chain_additive (mask-additive mask) (times-pow-additive one_lt_two width)) (mod-pow-additive one_lt_two 32))

    plus_step : (x : ℕ) → plus 2 x (bit_and x mask * 2 ^ width % 2 ^ 32) ≡ step mask width x
    plus_step x = plus-two x (bit_and x mask * 2 ^ width % 2 ^ 32)

-- a step for each width and mask
unfoldable pub steps : List (ℕ × ℕ) → ℕ → ℕ
steps [] x = x
steps ((width, mask) ∷ rest) x = steps rest (step mask width x)

steps-additive : (each : List (ℕ × ℕ)) → Additive 2 (steps each)
unfolding steps
steps-additive [] = same-additive one_lt_two
steps-additive ((width, mask) ∷ rest) = chain_additive (step-additive mask width) (steps-additive rest)

-- one step more, as a loop takes it, and none left
pub steps-drop : (each : List (ℕ × ℕ)) (z : ℕ × ℕ) (k x : ℕ) → k < length each
    → steps (drop (k + 1) each) (step (get_or each k z).1 (get_or each k z).0 x) ≡ steps (drop k each) x
unfolding steps
steps-drop each z k x h = rw (add-one, drop-cons each k z)

pub steps_past : (each : List (ℕ × ℕ)) (k x : ℕ) → length each ≤ k → steps (drop k each) x ≡ x
unfolding steps
steps_past each k x h = ap (λ (l : List (ℕ × ℕ)). steps l x) (drop_of_length-le each h)

-- steps that make the product with Pascal's triangle: a test that computes, that each column of the identity goes to that of the triangle
pub record PascalSteps (each : List (ℕ × ℕ)) : Type 0 where
  pub columns : map (steps each) (iterated 2 32 32).X ≡ (iterated 2 32 32).Y

pub steps-product : {each : List (ℕ × ℕ)} → PascalSteps each → (word : ℕ) → word < 2 ^ 32
    → steps each word ≡ product 2 (standard 2 32 32).Y (reversed 2 32 word)
steps-product {each} test word h = additive-pascal (steps-additive each) 32 32 word (omega arith) h test.columns
