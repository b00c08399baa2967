-- Signed decimal text reads back as its integer: a digit is no minus sign, so the first byte tells the sign.
-- Assumes nothing.
use mathlib.Core.Path.{◌≡◌, refl, ap, ◌∙◌}
use mathlib.Core.Logic.{◌≢◌}
use mathlib.Core.List.{List, [], ◌∷◌}
use Prim.Native.Nat.{ℕ, zero, suc, ◌^◌, ◌≤◌, ◌<◌}
use native.Mathlib.Omega.{arith}
use borrow.Author.Tests.{ne_eqb}
use lib.IntN.{ℤ, pos, negsuc, neg_ℤ}
use lib.ListN.{get_or}
use mir.Syntax.{w32}
use mir.Val.{SFits}
use Rattle.text.specs.Ascii.{minus_sign, digit_zero}
use Rattle.text.specs.Decimal.{decimal, signed_decimal}
use Rattle.text.specs.Theorem.{read_on, number_read, without_minus, integer_read, AllDigits}
use Rattle.text.proofs.Back.{reads_back, all_digits, no_zero_leads}

no_minus : (d : ℕ) → digit_zero ≤ d → d ≢ minus_sign
no_minus d h e = omega arith

digits-read : (ds : List ℕ) → AllDigits ds → integer_read ds ≡ pos (number_read ds)
unfolding read_on
digits-read [] p = refl
digits-read (d ∷ ds) p = simp (ne_eqb d minus_sign (no_minus d p.0.0))

digits-without_minus : (ds : List ℕ) → AllDigits ds → AllDigits (without_minus ds)
digits-without_minus [] p = tt
digits-without_minus (d ∷ ds) p = simp (ne_eqb d minus_sign (no_minus d p.0.0)) p

digits-no-minus : (ds : List ℕ) → AllDigits ds → (i : ℕ) → get_or ds i 0 ≢ minus_sign
digits-no-minus [] p i e = omega arith
digits-no-minus (d ∷ ds) p zero e = no_minus d p.0.0 e
digits-no-minus (d ∷ ds) p (suc i) e = digits-no-minus ds p.1 i e

-- the magnitude of an integer of 32 bits is a word
word : (n : ℕ) → n < 2 ^ 31 → suc n < 2 ^ 32
word n h = omega arith

pub signed_reads_back : (z : ℤ) → SFits w32 z → integer_read (signed_decimal z) ≡ z
signed_reads_back (pos n) f =
    let small : n < 2 ^ 31 = f.sfits in
    digits-read (decimal n) (all_digits n) ∙ ap pos (reads_back n (omega arith))
signed_reads_back (negsuc n) f = ap (λ (k : ℕ). neg_ℤ (pos k)) (reads_back (suc n) (word n f.sfits))

pub signed_all_digits : (z : ℤ) → AllDigits (without_minus (signed_decimal z))
signed_all_digits (pos n) = digits-without_minus (decimal n) (all_digits n)
signed_all_digits (negsuc n) = all_digits (suc n)

pub minus_leads : (z : ℤ) (i : ℕ) → 0 < i → get_or (signed_decimal z) i 0 ≢ minus_sign
minus_leads (pos n) i h = digits-no-minus (decimal n) (all_digits n) i
minus_leads (negsuc n) zero h = absurd (omega arith)
minus_leads (negsuc n) (suc i) h = digits-no-minus (decimal (suc n)) (all_digits (suc n)) i

pub no_minus_zero : (z : ℤ) → SFits w32 z → get_or (signed_decimal z) 0 0 ≡ minus_sign → digit_zero < get_or (signed_decimal z) 1 0
no_minus_zero (pos n) f e = absurd (digits-no-minus (decimal n) (all_digits n) 0 e)
no_minus_zero (negsuc n) f e = no_zero_leads (suc n) (omega arith) (word n f.sfits)
