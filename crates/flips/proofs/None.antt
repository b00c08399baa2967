-- Flips of which no bit is set: their bytes are 0, and they leave every word. Assumes nothing.
use Rattle.std.specs.Prelude.{◌↔◌, true, nat_eq}
use Rattle.std.specs.List.{fold}
use Rattle.std.proofs.Common.{eqb-true}
use Rattle.std.proofs.lemmas.Nat.{le_or_l, le_or_r}
use mathlib.Core.Path.{◌≡◌, refl, sym, ap, ◌∙◌}
use mathlib.Core.List.{List, [], ◌∷◌}
use Prim.Native.Nat.{ℕ, zero, suc, ◌+◌, ◌-◌, ◌*◌, ◌/◌, ◌%◌, ◌^◌, ◌≤◌, ◌<◌}
use native.Mathlib.Omega.{arith}
use native.Mathlib.Decide.{dec_lt}
use lib.Bits.{bit_or}
use lib.ListN.{length, get_or, replicate}
use lib.Seq.{ext_get_or}
use Rattle.ranges.specs.Below.{Below}
use Rattle.ranges.proofs.Below.{below_at}
use Rattle.digits.specs.Digits.{digit}
use Rattle.digits.proofs.Digit.{digit_lt, ext_below, digit_zero}
use Rattle.digits.proofs.Two.{one_lt_two}
use Rattle.net.specs.Sequence.{top}
use Rattle.flips.specs.Flips.{flip_bit, flip_at, flipped, unflipped, NoneSet}
use Rattle.flips.proofs.FlipBits.{same_bits, at, flipped_lt, flipped-undone, bit, deeper}

-- every byte is 0
abbrev pub NoBytes : List ℕ → ℕ → Type 0
NoBytes flips n = (k : ℕ) → k < n → get_or flips k 0 ≡ 0

-- past the end there is no byte either
past_end : (l : List ℕ) (k : ℕ) → length l ≤ k → get_or l k 0 ≡ 0
past_end [] k h = refl
past_end (x ∷ l) zero h = absurd (omega arith)
past_end (x ∷ l) (suc k) h = past_end l k (omega arith)

-- numbers joined bit by bit are at least each of them, and 0 where each of them is
joined_first : (a : ℕ) (l : List ℕ) → a ≤ fold bit_or a l
joined_first a [] = omega arith
joined_first a (x ∷ l) = omega (arith, le_or_l a x, joined_first (bit_or a x) l)

joined_each : (a : ℕ) (l : List ℕ) (k : ℕ) → get_or l k 0 ≤ fold bit_or a l
joined_each a [] k = omega arith
joined_each a (x ∷ l) zero = omega (arith, le_or_r a x, joined_first (bit_or a x) l)
joined_each a (x ∷ l) (suc k) = joined_each (bit_or a x) l k

joined_zero : (l : List ℕ) → NoBytes l (length l) → fold bit_or 0 l ≡ 0
joined_zero [] zeros = refl
joined_zero (x ∷ l) zeros = rw (zeros 0 (omega arith)) (joined_zero l (λ k h. zeros (suc k) (omega arith)))

module _ (flips : List ℕ) where
  pub none-of-bytes : NoBytes flips (length flips) → NoneSet flips
  unfolding flip_bit
  none-of-bytes zeros n = ap (digit 2 (n % 8)) (byte (dec_lt (n / 8) (length flips))) ∙ digit_zero one_lt_two (n % 8)
    where
      byte : Dec (n / 8 < length flips) → get_or flips (n / 8) 0 ≡ 0
      byte (yes h) = zeros (n / 8) h
      byte (no h) = past_end flips (n / 8) (omega arith)

  -- a byte has 8 bits
  pub byte_of-none : NoneSet flips → (k : ℕ) → get_or flips k 0 < 256 → get_or flips k 0 ≡ 0
  unfolding flip_bit
  byte_of-none none k h = ext_below one_lt_two 8 (get_or flips k 0) 0 h (omega arith) each
    where
      each : (i : ℕ) → i < 8 → digit 2 i (get_or flips k 0) ≡ digit 2 i 0
      each i l =
          let high : (k * 8 + i) / 8 ≡ k = omega arith in
          let low : (k * 8 + i) % 8 ≡ i = omega arith in
          sym (ap (λ (n : ℕ). digit 2 n (get_or flips ((k * 8 + i) / 8) 0)) low ∙ ap (λ (n : ℕ). digit 2 i (get_or flips n 0)) high)
          ∙ none (k * 8 + i) ∙ sym (digit_zero one_lt_two i)

  -- the bytes, joined bit by bit
  pub none-joined : (joined : ℕ) → joined ≡ fold bit_or 0 flips → ((k : ℕ) → get_or flips k 0 < 256) → (nat_eq joined 0 ≡ true) ↔ NoneSet flips
  none-joined joined e bytes = (
    λ zero. none-of-bytes (λ k h. let at = joined_each 0 flips k in let is = eqb-true joined 0 zero in omega (arith, e)),
    λ none. rw (e, joined_zero flips (λ k h. byte_of-none none k (bytes k))) refl,
  )

  -- nothing is added to any bit
  none-at : NoneSet flips → (t p : ℕ) → t < 8 → flip_at flips t p ≡ 0
  none-at none t p h = at flips t p h ∙ none (2 ^ t - 1 + p)

  pub leaves : NoneSet flips → (w : ℕ) → w < 2 ^ 32 → flipped flips w ≡ w
  leaves none w h = same_bits (flipped flips w) w (flipped_lt flips w) h (λ t l. go t l (dec_lt t 8))
    where
      go : (t : ℕ) → t < 32 → Dec (t < 8) → digit 2 (31 - t) (flipped flips w) ≡ digit 2 (31 - t) w
      go t l (yes s) =
          let f = none-at none t (top 2 32 t w) s in
          let d = digit_lt one_lt_two (31 - t) w in
          bit flips t w l ∙ omega (arith, f, d)
      go t l (no s) = deeper flips t w (omega arith) l

  pub leaves_back : NoneSet flips → (w : ℕ) → w < 2 ^ 32 → unflipped flips w ≡ w
  leaves_back none w h =
      let u = flipped-undone flips in
      sym (leaves none (unflipped flips w) (u.fits w h)) ∙ u.back w h

-- ---- 32 bytes of 0

zeros : (k i : ℕ) → ◌≡◌ {A = ℕ} (get_or {A = ℕ} (replicate k 0) i 0) 0
zeros zero i = refl
zeros (suc k) zero = refl
zeros (suc k) (suc i) = zeros k i

many : (k : ℕ) → length {A = ℕ} (replicate k 0) ≡ k
many zero = refl
many (suc k) = ap suc (many k)

pub none-of-zeros : (k : ℕ) → NoneSet (replicate k 0)
none-of-zeros k = none-of-bytes (replicate k 0) (λ i h. zeros k i)

pub zeros-of-none : (flips : List ℕ) (k : ℕ) → length flips ≡ k → Below 256 flips → NoneSet flips → flips ≡ replicate k 0
zeros-of-none flips k long bytes none =
    ext_get_or 0 flips (replicate k 0) (long ∙ sym (many k))
    (λ i h. byte_of-none flips none i (below_at 256 flips i (omega arith) bytes) ∙ sym (zeros k i))
