-- One term of `Theorems`. Assumes nothing.
use mathlib.Core.Path.{◌≡◌, refl, sym, ap, ◌∙◌}
use mathlib.Core.Logic.{◌≢◌, ◌⊎◌, inl, inr}
use mathlib.Core.List.{List, []}
use Prim.Native.Nat.{ℕ, ◌+◌, ◌-◌, ◌%◌, ◌^◌, ◌<◌}
use native.Mathlib.Omega.{arith}
use lib.ListN.{length}
use Rattle.ranges.proofs.Order.{eq_or_ne}
use Rattle.digits.specs.Digits.{digit}
use Rattle.digits.proofs.Two.{one_lt_two}
use Rattle.net.specs.Sequence.{top}
use Rattle.net.proofs.Scrambling.{undone_scramblings}
use Rattle.refusal.specs.Outcome.{Outcome, accepted, refused}
use Rattle.refusal.proofs.First.{accepted-refused, refused-same}
use Rattle.flips.specs.Flips.{flip_bit, flipped, unflipped}
use Rattle.flips.specs.Scramble.{scramble_word, unscramble_word}
use Rattle.flips.specs.Load.{flips_of, flips_outcome, no_flips}
use Rattle.flips.specs.Theorem.{Flipping, WordScrambling, FlipsJudged, Theorems}
use Rattle.flips.proofs.FlipBits.{flip_bit_lt, at, bit, deeper, flipped_lt, flipped-lawful, flipped-undone}
use Rattle.flips.proofs.None.{leaves, none-of-zeros, zeros-of-none}
use Rattle.flips.proofs.Scrambled.{scrambled-lawful, scrambled-undone, masked}
use Rattle.flips.proofs.Loading.{refuses_x, refuses_y, refuses_bit_x, refuses_bit_y, accepts}

flipping : (flips : List ℕ) → Flipping flips
flipping flips = record {
  fits = flipped_lt flips;
  bits = λ t w h. bit flips t w (omega arith) ∙ ap (λ (f : ℕ). (digit 2 (31 - t) w + f) % 2) (at flips t (top 2 32 t w) h);
  deeper = deeper flips;
  back = (undone_scramblings one_lt_two 32).both_sides (flipped flips) (unflipped flips) (flipped-lawful flips) (flipped-undone flips);
  forth = (flipped-undone flips).back;
  none = leaves flips;
}

scrambled : (flips : List ℕ) (s : ℕ) → s < 2 ^ 32 → WordScrambling flips s
scrambled flips s h = record {
  lawful = scrambled-lawful flips s h;
  undone = scrambled-undone flips s h;
  back = (undone_scramblings one_lt_two 32).both_sides (scramble_word flips s) (unscramble_word flips s) (scrambled-lawful flips s h)
      (scrambled-undone flips s h);
  masked = masked flips s;
}

-- ---- each flips are refused under 17, or under 18, or accepted

module _ (x y : List ℕ) where
  abbrev outcome : Outcome Unit
  outcome = flips_outcome (flips_of x y)

  abbrev Short : Type 0
  Short = (length x ≢ 32) ⊎ (length y ≢ 32)

  abbrev Set : Type 0
  Set = (length x ≡ 32) × (length y ≡ 32) × ((flip_bit x 255 ≡ 1) ⊎ (flip_bit y 255 ≡ 1))

  abbrev Fine : Type 0
  Fine = (length x ≡ 32) × (length y ≡ 32) × (flip_bit x 255 ≡ 0) × (flip_bit y 255 ≡ 0)

  short-refused : Short → outcome ≡ refused 17 []
  short-refused (inl ne) = refuses_x x y (accepted tt) ne
  short-refused (inr ne) = refuses_y x y (accepted tt) ne

  set-refused : Set → outcome ≡ refused 18 []
  set-refused (ex, ey, inl e) = refuses_bit_x x y (accepted tt) ex ey e
  set-refused (ex, ey, inr e) = refuses_bit_y x y (accepted tt) ex ey e

  fine_accepted : Fine → outcome ≡ accepted tt
  fine_accepted (ex, ey, e, f) = accepts x y (accepted tt) ex ey e f

  some : Short ⊎ (Set ⊎ Fine)
  some = lengths (eq_or_ne (length x) 32) (eq_or_ne (length y) 32)
    where
      bits : length x ≡ 32 → length y ≡ 32 → (flip_bit x 255 ≡ 0) ⊎ (flip_bit x 255 ≢ 0) → (flip_bit y 255 ≡ 0) ⊎ (flip_bit y 255 ≢ 0)
          → Short ⊎ (Set ⊎ Fine)
      bits ex ey (inr ne) other = let l = flip_bit_lt x 255 in inr (inl (ex, ey, inl (omega arith)))
      bits ex ey (inl e) (inr ne) = let l = flip_bit_lt y 255 in inr (inl (ex, ey, inr (omega arith)))
      bits ex ey (inl e) (inl f) = inr (inr (ex, ey, e, f))

      lengths : (length x ≡ 32) ⊎ (length x ≢ 32) → (length y ≡ 32) ⊎ (length y ≢ 32) → Short ⊎ (Set ⊎ Fine)
      lengths (inr ne) other = inl (inl ne)
      lengths (inl ex) (inr ne) = inl (inr ne)
      lengths (inl ex) (inl ey) = bits ex ey (eq_or_ne (flip_bit x 255) 0) (eq_or_ne (flip_bit y 255) 0)

  clash : {m n : ℕ} → outcome ≡ refused m [] → outcome ≡ refused n [] → m ≡ n
  clash e f = refused-same {A = Unit} (sym e ∙ f)

  short-of : Short ⊎ (Set ⊎ Fine) → outcome ≡ refused 17 [] → Short
  short-of (inl short) e = short
  short-of (inr (inl set)) e = let z : ◌≡◌ {A = ℕ} 18 17 = clash (set-refused set) e in absurd (omega arith)
  short-of (inr (inr fine)) e = absurd (accepted-refused (sym (fine_accepted fine) ∙ e))

  set-of : Short ⊎ (Set ⊎ Fine) → outcome ≡ refused 18 [] → Set
  set-of (inl short) e = let z : ◌≡◌ {A = ℕ} 17 18 = clash (short-refused short) e in absurd (omega arith)
  set-of (inr (inl set)) e = set
  set-of (inr (inr fine)) e = absurd (accepted-refused (sym (fine_accepted fine) ∙ e))

  fine_of : Short ⊎ (Set ⊎ Fine) → outcome ≡ accepted tt → Fine
  fine_of (inl short) e = absurd (accepted-refused (sym e ∙ short-refused short))
  fine_of (inr (inl set)) e = absurd (accepted-refused (sym e ∙ set-refused set))
  fine_of (inr (inr fine)) e = fine

  judged : FlipsJudged x y
  judged = record {
    bytes_iff = (short-of some, short-refused);
    unused_iff = (set-of some, set-refused);
    accepted_iff = (fine_of some, fine_accepted);
  }

pub theorems : Theorems
theorems = record {
  flipping = flipping;
  scrambled = scrambled;
  judged = judged;
  none_accepted = let none = none-of-zeros 32 in accepts no_flips.x no_flips.y (accepted tt) refl refl (none 255) (none 255);
  none_set = (none-of-zeros 32, none-of-zeros 32);
  none_only = λ flips long bytes none. zeros-of-none flips 32 long bytes none;
}
