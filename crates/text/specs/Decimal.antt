-- Numbers in decimal, as bytes of ASCII.
use Rattle.std.specs.Prelude.{cond, List, [], ◌∷◌, ◌++◌, ℕ, zero, suc, ◌+◌, ◌*◌, ◌/◌, ◌%◌, ltb, ℤ, pos, negsuc, nat_abs}
use Rattle.text.specs.Ascii.{minus_sign, digit_zero}

-- the decimal digits of n, the highest first, at most f + 1 of them
unfoldable pub decimal_in : ℕ → ℕ → List ℕ
decimal_in zero n = (digit_zero + n % 10) ∷ []
decimal_in (suc f) n = cond (ltb n 10) ((digit_zero + n) ∷ []) (decimal_in f (n / 10) ++ ((digit_zero + n % 10) ∷ []))

-- ten digits hold every word of 32 bits (`Theorem`: `reads_back`)
abbrev pub decimal : ℕ → List ℕ
decimal n = decimal_in 9 n

-- the two digits of a number below 100
abbrev pub two_digits : ℕ → List ℕ
two_digits n = (digit_zero + n / 10) ∷ (digit_zero + n % 10) ∷ []

-- the same two bytes as one word, the first digit in the lowest byte
abbrev pub two_digits_word : ℕ → ℕ
two_digits_word n = digit_zero + n / 10 + (digit_zero + n % 10) * 256

-- the four digits of a number below 10000
abbrev pub four_digits : ℕ → List ℕ
four_digits n = two_digits (n / 100) ++ two_digits (n % 100)

-- a minus sign for a negative number, and nothing for another
abbrev pub sign : ℤ → List ℕ
sign (pos n) = []
sign (negsuc n) = minus_sign ∷ []

-- an integer in decimal
abbrev pub signed_decimal : ℤ → List ℕ
signed_decimal z = sign z ++ decimal (nat_abs z)

-- a number in decimal and the byte after it
unfoldable pub number_text : ℕ → ℕ → List ℕ
number_text n last = decimal n ++ (last ∷ [])

-- an integer in decimal and the byte after it
unfoldable pub signed_text : ℤ → ℕ → List ℕ
signed_text z last = sign z ++ number_text (nat_abs z) last

-- the length of the longest `number_text` of a word: ten digits and the byte after them
abbrev pub longest_number : ℕ
longest_number = 11

-- the length of the longest `signed_text`: a sign more
abbrev pub longest_signed : ℕ
longest_signed = 12
