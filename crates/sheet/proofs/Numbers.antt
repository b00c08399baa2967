-- Numbers in the columns of a line: they have room, no blank leads, and they can be printed.
-- Assumes nothing.
use Rattle.std.proofs.Common.{◌≡◌, ℕ, suc, ◌<◌, ◌≤◌, false, List, [], ◌∷◌, length, ℤ, pos, negsuc, arith}
use Rattle.ranges.specs.Each.{Each}
use Rattle.text.specs.Decimal.{decimal, signed_decimal}
use Rattle.text.specs.Theorem.{AllDigits}
use Rattle.text.proofs.Back.{all_digits}
use Rattle.text.proofs.Numbers.{decimal-short, decimal-some, signed_short}
use Rattle.sheet.specs.ReadBack.{is_blank}
use Rattle.sheet.specs.Theorem.{Near, Printable}
use Rattle.sheet.proofs.Columns.{Solid, seen_first}

-- ---- widths

pub decimal_four : (n : ℕ) → n ≤ 4095 → length (decimal n) ≤ 4
decimal_four n h = decimal-short 3 n (omega arith)

pub signed_eight : (z : ℤ) → Near z → length (signed_decimal z) ≤ 8
signed_eight (pos n) h = signed_short 6 (pos n) (omega arith)
signed_eight (negsuc n) h = signed_short 6 (negsuc n) (omega arith)

-- ---- digits are no blanks

digits_solid : (text : List ℕ) → AllDigits text → Solid text
digits_solid [] h = tt
digits_solid (c ∷ cs) h = λ e. let low = h.0.0 in omega (arith, low, e)

pub decimal_solid : (n : ℕ) → Solid (decimal n)
decimal_solid n = digits_solid (decimal n) (all_digits n)

pub signed_solid : (z : ℤ) → Solid (signed_decimal z)
signed_solid (pos n) = decimal_solid n
signed_solid (negsuc n) = λ e. omega (arith, e)

seen_solid : (text : List ℕ) → 0 < length text → Solid text → is_blank text ≡ false
seen_solid [] l s = absurd (omega arith)
seen_solid (c ∷ cs) l s = seen_first c cs s

pub decimal_seen : (n : ℕ) → is_blank (decimal n) ≡ false
decimal_seen n = seen_solid (decimal n) (decimal-some n) (decimal_solid n)

-- ---- and can be printed

digits-printable : (text : List ℕ) → AllDigits text → Each Printable text
digits-printable [] h = tt
digits-printable (c ∷ cs) h =
    let low = h.0.0 in
    let high = h.0.1 in
    ((omega (arith, low), omega (arith, high)), digits-printable cs h.1)

pub decimal-printable : (n : ℕ) → Each Printable (decimal n)
decimal-printable n = digits-printable (decimal n) (all_digits n)

pub signed_printable : (z : ℤ) → Each Printable (signed_decimal z)
signed_printable (pos n) = decimal-printable n
signed_printable (negsuc n) = ((omega arith, omega arith), decimal-printable (suc n))
