-- What users rely on: decimal text reads back as its number, and pieces joined are the text.
use Rattle.std.specs.Prelude.{◌≡◌, ◌≢◌, cond, List, [], ◌∷◌, ◌++◌, ℕ, ◌+◌, ◌-◌, ◌*◌, ◌^◌, ◌≤◌, ◌<◌, eqb, ℤ, pos, neg_ℤ, get_or}
use Rattle.std.specs.Int.{w32}
use Rattle.std.proofs.Common.{SFits}
use Rattle.text.specs.Ascii.{minus_sign, digit_zero, digit_nine}
use Rattle.text.specs.Decimal.{decimal, signed_decimal}
use Rattle.text.specs.Pieces.{join, Piece, Pieces}

-- ---- reading

-- the number that digits stand for, where the digits before them stand for `before`
unfoldable pub read_on : ℕ → List ℕ → ℕ
read_on before [] = before
read_on before (d ∷ ds) = read_on (before * 10 + (d - digit_zero)) ds

-- the number that digits stand for
abbrev pub number_read : List ℕ → ℕ
number_read ds = read_on 0 ds

-- a text without the minus sign that it may begin with
abbrev pub without_minus : List ℕ → List ℕ
without_minus [] = []
without_minus (c ∷ cs) = cond (eqb c minus_sign) cs (c ∷ cs)

-- the integer that a text stands for: digits, or a minus sign and digits
abbrev pub integer_read : List ℕ → ℤ
integer_read [] = pos 0
integer_read (c ∷ cs) = cond (eqb c minus_sign) (neg_ℤ (pos (number_read cs))) (pos (number_read (c ∷ cs)))

-- each byte is a digit
abbrev pub AllDigits : List ℕ → Type 0
AllDigits [] = Unit
AllDigits (d ∷ ds) = ((digit_zero ≤ d) × (d ≤ digit_nine)) × AllDigits ds

-- ---- statements

-- every word of 32 bits in decimal: it reads back, it has digits only, and it is the shortest text that does
pub record Readable : Type 0 where
  pub reads_back : (n : ℕ) → n < 2 ^ 32 → number_read (decimal n) ≡ n
  pub all_digits : (n : ℕ) → AllDigits (decimal n)
  -- no zero leads, unless the number is 0
  pub no_zero_leads : (n : ℕ) → 0 < n → n < 2 ^ 32 → digit_zero < get_or (decimal n) 0 0

-- every integer of 32 bits in decimal, likewise
pub record SignedReadable : Type 0 where
  pub reads_back : (z : ℤ) → SFits w32 z → integer_read (signed_decimal z) ≡ z
  -- without its minus sign the text has digits only
  pub all_digits : (z : ℤ) → AllDigits (without_minus (signed_decimal z))
  -- only the first byte can be a minus sign
  pub minus_leads : (z : ℤ) (i : ℕ) → 0 < i → get_or (signed_decimal z) i 0 ≢ minus_sign
  -- there is no -0, and no zero after a minus sign
  pub no_minus_zero : (z : ℤ) → SFits w32 z → get_or (signed_decimal z) 0 0 ≡ minus_sign → digit_zero < get_or (signed_decimal z) 1 0

-- pieces of a text, whatever the text, its cursors and its longest line
pub record Joined : Type 1 where
  -- at any time, the pieces so far and the text still to come are the whole text
  pub so_far : {C : Type 0} (to_come : C → List ℕ) (w : ℕ) (c e : C) (ps : List (List ℕ)) → Pieces to_come w c ps e → join ps ++ to_come e ≡ to_come c
  -- up to an empty piece in a buffer with room for a line, the pieces are the whole text
  pub whole : {C : Type 0} (to_come : C → List ℕ) (w : ℕ) (c d e : C) (ps : List (List ℕ)) (room : ℕ) → Pieces to_come w c ps d
      → Piece to_come w d e [] room → w ≤ room → join ps ≡ to_come c

pub record Theorems : Type 1 where
  pub decimals : Readable
  pub signed_decimals : SignedReadable
  pub pieces : Joined
