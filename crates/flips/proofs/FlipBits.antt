-- A word flipped, bit by bit from the top, as an instance of nested scrambling. Assumes nothing.
use mathlib.Core.Path.{◌≡◌, refl, sym, ap, ◌∙◌}
use mathlib.Core.List.{List}
use Prim.Native.Nat.{ℕ, suc, ◌+◌, ◌-◌, ◌*◌, ◌/◌, ◌%◌, ◌^◌, ◌≤◌, ◌<◌}
use native.Mathlib.Nat.{pow-le-pow_right, div-div-eq-div-mul}
use native.Mathlib.Omega.{arith}
use native.Mathlib.Decide.{dec_lt}
use borrow.Author.Tests.{lt-ltb, le-ltb}
use lib.ListN.{get_or}
use lib.Pow.{pow-add}
use Rattle.digits.specs.Digits.{digit, plus}
use Rattle.digits.proofs.Digit.{digit_lt, ext_below}
use Rattle.digits.proofs.Arithmetic.{digit-plus, plus_lt}
use Rattle.digits.proofs.Two.{one_lt_two}
use Rattle.net.specs.Sequence.{top}
use Rattle.net.specs.Scrambling.{PrefixBijection, RightInverse, Permutes, adding, LeadsBack, taking}
use Rattle.net.proofs.Scrambling.{lawful_scramblings, undone_scramblings, nested_lt}
use Rattle.flips.specs.Flips.{flip_bit, flip_at, flipped, unflipped}

-- two words of 32 bits whose bits from the top are the same
pub same_bits : (v w : ℕ) → v < 2 ^ 32 → w < 2 ^ 32 → ((t : ℕ) → t < 32 → digit 2 (31 - t) v ≡ digit 2 (31 - t) w) → v ≡ w
same_bits v w hv hw same = ext_below one_lt_two 32 v w hv hw turned
  where
    turned : (k : ℕ) → k < 32 → digit 2 k v ≡ digit 2 k w
    turned k h =
        let e : 31 - (31 - k) ≡ k = omega arith in
        let l : 31 - k < 32 = omega arith in
        ap (λ (n : ℕ). digit 2 n v) (sym e) ∙ same (31 - k) l ∙ ap (λ (n : ℕ). digit 2 n w) e

-- nodes are below 255
pub node_lt : (t p : ℕ) → t < 8 → p < 2 ^ t → 2 ^ t - 1 + p < 255
node_lt t p h l = omega (arith, pow-le-pow_right {n = 2} (omega arith) {i = t} {j = 7} (omega arith))

module _ (flips : List ℕ) where
  pub flip_bit_lt : (n : ℕ) → flip_bit flips n < 2
  unfolding flip_bit
  flip_bit_lt n = digit_lt one_lt_two (n % 8) (get_or flips (n / 8) 0)

  -- as the code reads it
  pub read_bit : (n : ℕ) → flip_bit flips n ≡ get_or flips (n / 8) 0 / 2 ^ (n % 8) % 2
  unfolding flip_bit
  read_bit n = refl

  pub at : (t p : ℕ) → t < 8 → flip_at flips t p ≡ flip_bit flips (2 ^ t - 1 + p)
  unfolding flip_at
  at t p h = rw (lt-ltb t 8 h, flip_at) refl

  pub deep : (t p : ℕ) → 8 ≤ t → flip_at flips t p ≡ 0
  unfolding flip_at
  deep t p h = rw (le-ltb t 8 h, flip_at) refl

  pub permutes : Permutes 2 (adding 2 (flip_at flips))
  permutes = (lawful_scramblings one_lt_two 32).additions (flip_at flips)

  pub leads : LeadsBack 2 (adding 2 (flip_at flips)) (taking 2 (flip_at flips))
  leads = (undone_scramblings one_lt_two 32).additions (flip_at flips)

  -- deeper bits pass, both ways
  pub passes : (t p e : ℕ) → 8 ≤ t → e < 2 → adding 2 (flip_at flips) t p e ≡ e
  passes t p e h l = omega (arith, deep t p h)

  pub passes-back : (t p e : ℕ) → 8 ≤ t → e < 2 → taking 2 (flip_at flips) t p e ≡ e
  passes-back t p e h l = omega (arith, deep t p h)

  pub flipped_lt : (w : ℕ) → flipped flips w < 2 ^ 32
  flipped_lt w = nested_lt one_lt_two 32 permutes 32 w

  pub flipped-lawful : PrefixBijection 2 32 (flipped flips)
  flipped-lawful = (lawful_scramblings one_lt_two 32).nesting (adding 2 (flip_at flips)) permutes

  pub flipped-undone : RightInverse 2 32 (flipped flips) (unflipped flips)
  flipped-undone = (undone_scramblings one_lt_two 32).nesting (adding 2 (flip_at flips)) (taking 2 (flip_at flips)) permutes leads

  -- bit t from the top
  pub bit : (t w : ℕ) → t < 32 → digit 2 (31 - t) (flipped flips w) ≡ (digit 2 (31 - t) w + flip_at flips t (top 2 32 t w)) % 2
  bit t w h =
      let e : 32 - suc t ≡ 31 - t = omega arith in
      ap (λ (k : ℕ). digit 2 k (flipped flips w)) (sym e)
      ∙ (lawful_scramblings one_lt_two 32).nested_digits (adding 2 (flip_at flips)) permutes t w h
      ∙ ap (λ (k : ℕ). (digit 2 k w + flip_at flips t (top 2 32 t w)) % 2) e

  pub deeper : (t w : ℕ) → 8 ≤ t → t < 32 → digit 2 (31 - t) (flipped flips w) ≡ digit 2 (31 - t) w
  deeper t w h l = bit t w l ∙ passes t (top 2 32 t w) (digit 2 (31 - t) w) h (digit_lt one_lt_two (31 - t) w)

  -- ---- what flipping adds hangs on the top byte alone

  -- the top byte has the same leading bits, as far as the flips go
  lead_byte : (t w : ℕ) → t ≤ 8 → top 2 32 t (w / 2 ^ 24 * 2 ^ 24) ≡ top 2 32 t w
  lead_byte t w l =
      let e : 24 + (8 - t) ≡ 32 - t = omega arith in
      let q : 2 ^ 24 * 2 ^ (8 - t) ≡ 2 ^ (32 - t) = sym (pow-add 2 24 (8 - t)) ∙ ap (λ (n : ℕ). 2 ^ n) e in
      let b : w / 2 ^ 24 * 2 ^ 24 / 2 ^ 24 ≡ w / 2 ^ 24 = omega arith in
      let split : (x : ℕ) → x / 2 ^ (32 - t) ≡ x / 2 ^ 24 / 2 ^ (8 - t) = λ x.
      ap (λ (n : ℕ). x / n) (sym q) ∙ sym (div-div-eq-div-mul x (2 ^ 24) (2 ^ (8 - t))) in
      split (w / 2 ^ 24 * 2 ^ 24) ∙ ap (λ (n : ℕ). n / 2 ^ (8 - t)) b ∙ sym (split w)

  same_flip : (t w : ℕ) → Dec (t < 8) → flip_at flips t (top 2 32 t (w / 2 ^ 24 * 2 ^ 24)) ≡ flip_at flips t (top 2 32 t w)
  same_flip t w (yes s) = ap (flip_at flips t) (lead_byte t w (omega arith))
  same_flip t w (no s) = deep t _ (omega arith) ∙ sym (deep t _ (omega arith))

  -- a bit, twice added
  twice : (d x f g : ℕ) → f ≡ g → (d + f) % 2 ≡ (d + ((x + g) % 2 + x) % 2) % 2
  twice d x f g e = omega (arith, e)

  pub by_top_byte : (w : ℕ) → w < 2 ^ 32 → flipped flips w ≡ plus 2 w (plus 2 (flipped flips (w / 2 ^ 24 * 2 ^ 24)) (w / 2 ^ 24 * 2 ^ 24))
  by_top_byte w h =
      let v : ℕ = w / 2 ^ 24 * 2 ^ 24 in
      let hv : v < 2 ^ 32 = omega arith in
      let added = plus 2 (flipped flips v) v in
      let small = plus_lt one_lt_two 32 (flipped flips v) v (flipped_lt v) hv in
      same_bits (flipped flips w) (plus 2 w added) (flipped_lt w) (plus_lt one_lt_two 32 w added h small)
      (λ t l.
      let k : ℕ = 31 - t in
      bit t w l
      ∙ twice (digit 2 k w) (digit 2 k v) (flip_at flips t (top 2 32 t w)) (flip_at flips t (top 2 32 t v)) (sym (same_flip t w (dec_lt t 8)))
      ∙ sym (digit-plus one_lt_two w added k
      ∙ ap (λ (n : ℕ). (digit 2 k w + n) % 2)
      (digit-plus one_lt_two (flipped flips v) v k ∙ ap (λ (n : ℕ). (n + digit 2 k v) % 2) (bit t v l))))
