-- Texts set in columns: how long they are, and how they are put into a buffer.
-- Assumes nothing.
use mathlib.Core.Path.{◌≡◌, refl, sym, ap, ◌∙◌, subst}
use mathlib.Core.List.{List, [], ◌∷◌, ◌++◌, append_assoc}
use Prim.Native.Nat.{ℕ, suc, ◌+◌, ◌-◌, ◌≤◌, ◌<◌}
use native.Mathlib.Omega.{arith}
use lib.IntN.{ℤ, nat_abs}
use lib.ListN.{length, replicate, length-append, length-replicate}
use Rattle.text.specs.Ascii.{blank}
use Rattle.text.specs.Decimal.{decimal, sign, signed_decimal, number_text, signed_text, longest_number, longest_signed}
use Rattle.text.specs.Columns.{right, aligned, longest_aligned}
use Rattle.text.proofs.Puts.{Writes, writes_then}
use Rattle.text.proofs.Numbers.{decimal_longest, signed_decimal_longest}

pub number_text_is : (n last : ℕ) → number_text n last ≡ decimal n ++ (last ∷ [])
unfolding number_text
number_text_is n last = refl

pub signed_text_is : (z : ℤ) (last : ℕ) → signed_text z last ≡ signed_decimal z ++ (last ∷ [])
unfolding signed_text number_text
signed_text_is z last = sym (append_assoc (sign z) (decimal (nat_abs z)) (last ∷ []))

-- a text that has room in its columns takes all of them
pub right-wide : (w : ℕ) (text : List ℕ) → length text ≤ w → length (right w text) ≡ w
unfolding right
right-wide w text h =
    let blanks : List ℕ = replicate (w - length text) blank in
    omega (arith, length-append blanks text, length-replicate (w - length text) blank)

pub aligned-wide : (w : ℕ) (text : List ℕ) (last : ℕ) → length text ≤ w → length (aligned w text last) ≡ suc w
aligned-wide w text last h = omega (arith, length-append (right w text) (last ∷ []), right-wide w text h)

-- a text with the byte after it
pub one_longer : (t s : List ℕ) (last : ℕ) → s ≡ t ++ (last ∷ []) → length s ≡ length t + 1
one_longer t s last is = ap length is ∙ length-append t (last ∷ [])

-- a text in w columns, where no text is longer than m bytes with the byte after it
module _ (w m : ℕ) (text : List ℕ) (last : ℕ) (short : length text < m) where
  pub aligned_longest : length (aligned w text last) ≤ longest_aligned w m
  unfolding right
  aligned_longest =
      let blanks : List ℕ = replicate (w - length text) blank in
      omega (arith, length-append (right w text) (last ∷ []), length-append blanks text, length-replicate (w - length text) blank)

  -- a writer of the margin, one of the text and one of the byte are a writer of the column, where the column has room
  pub column_written : (d : List ℕ) (at k r : ℕ) (e : List ℕ) (r' : ℕ) (e' : List ℕ) (r'' : ℕ) (e'' : List ℕ) → k ≡ length text
      → at + longest_aligned w m ≤ length d → Writes d at (replicate (w - k) blank) r e → Writes e r text r' e' → Writes e' r' (last ∷ []) r'' e''
      → Writes d at (aligned w text last) r'' e''
  unfolding right
  column_written d at k r e r' e' r'' e'' wide room p q o =
      let blanks : List ℕ = replicate (w - length text) blank in
      let long = length-replicate (w - length text) blank in
      let margin : Writes d at blanks r e = subst (λ (n : ℕ). Writes d at (replicate (w - n) blank) r e) wide p in
      let both = writes_then d at blanks text r e r' e' margin q (omega (arith, long)) in
      writes_then d at (blanks ++ text) (last ∷ []) r' e' r'' e'' both o (omega (arith, long, length-append blanks text))

-- numbers in columns
pub number-aligned_longest : (w n last : ℕ) → length (aligned w (decimal n) last) ≤ longest_aligned w longest_number
number-aligned_longest w n last = aligned_longest w longest_number (decimal n) last (omega (arith, decimal_longest n))

pub signed_aligned_longest : (w : ℕ) (z : ℤ) (last : ℕ) → length (aligned w (signed_decimal z) last) ≤ longest_aligned w longest_signed
signed_aligned_longest w z last = aligned_longest w longest_signed (signed_decimal z) last (omega (arith, signed_decimal_longest z))
