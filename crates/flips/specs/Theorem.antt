-- What is proved of flips: the request bit by bit, that what follows the product obeys the law of a scrambling and is undone, which flips
-- are refused, and that none change nothing. proofs/Theorem gives one term of `Theorems`.
use Rattle.std.specs.Prelude.{◌≡◌, ◌≢◌, ◌⊎◌, ◌↔◌, List, [], ℕ, ◌+◌, ◌-◌, ◌/◌, ◌%◌, ◌^◌, ◌≤◌, ◌<◌, length}
use Rattle.ranges.specs.Below.{Below}
use Rattle.digits.specs.Digits.{digit, plus}
use Rattle.net.specs.Sequence.{top}
use Rattle.net.specs.Scrambling.{PrefixBijection, RightInverse}
use Rattle.refusal.specs.Outcome.{accepted, refused}
use Rattle.flips.specs.Flips.{flip_bit, flipped, unflipped, NoneSet}
use Rattle.flips.specs.Scramble.{scramble_word, unscramble_word, mask}
use Rattle.flips.specs.Load.{flips_of, flips_outcome, no_flips}

-- C-16 bit by bit, for any bytes: bit t from the top is digit 31 - t of the word w, and p is the number of the t leading bits of w, before
-- any flip
pub record Flipping (flips : List ℕ) : Type 0 where
  pub fits : (w : ℕ) → flipped flips w < 2 ^ 32
  pub bits : (t w : ℕ) → t < 8
      → digit 2 (31 - t) (flipped flips w) ≡ (digit 2 (31 - t) w + flip_bit flips (2 ^ t - 1 + top 2 32 t w)) % 2
  pub deeper : (t w : ℕ) → 8 ≤ t → t < 32 → digit 2 (31 - t) (flipped flips w) ≡ digit 2 (31 - t) w
  pub back : (w : ℕ) → w < 2 ^ 32 → unflipped flips (flipped flips w) ≡ w
  pub forth : (w : ℕ) → w < 2 ^ 32 → flipped flips (unflipped flips w) ≡ w
  pub none : NoneSet flips → (w : ℕ) → w < 2 ^ 32 → flipped flips w ≡ w

-- flips and then a shift s: a lawful scrambling, undone from both sides; what it adds to a word hangs on the word's top byte alone
pub record WordScrambling (flips : List ℕ) (s : ℕ) : Type 0 where
  pub lawful : PrefixBijection 2 32 (scramble_word flips s)
  pub undone : RightInverse 2 32 (scramble_word flips s) (unscramble_word flips s)
  pub back : (w : ℕ) → w < 2 ^ 32 → unscramble_word flips s (scramble_word flips s w) ≡ w
  pub masked : (w : ℕ) → w < 2 ^ 32 → scramble_word flips s w ≡ plus 2 w (mask flips s (w / 2 ^ 24))

-- 17 exactly where an axis has not 32 bytes; 18 exactly where both have them and flip bit 255 of one is set; and accepted exactly where
-- both have them and neither bit is set
pub record FlipsJudged (x y : List ℕ) : Type 0 where
  pub bytes_iff : (flips_outcome (flips_of x y) ≡ refused 17 []) ↔ ((length x ≢ 32) ⊎ (length y ≢ 32))
  pub unused_iff : (flips_outcome (flips_of x y) ≡ refused 18 [])
      ↔ ((length x ≡ 32) × (length y ≡ 32) × ((flip_bit x 255 ≡ 1) ⊎ (flip_bit y 255 ≡ 1)))
  pub accepted_iff : (flips_outcome (flips_of x y) ≡ accepted tt)
      ↔ ((length x ≡ 32) × (length y ≡ 32) × (flip_bit x 255 ≡ 0) × (flip_bit y 255 ≡ 0))

pub record Theorems : Type 0 where
  -- of any bytes
  pub flipping : (flips : List ℕ) → Flipping flips
  pub scrambled : (flips : List ℕ) (s : ℕ) → s < 2 ^ 32 → WordScrambling flips s
  pub judged : (x y : List ℕ) → FlipsJudged x y
  -- no flips are accepted, and 32 bytes without a set bit are no flips
  pub none_accepted : flips_outcome no_flips ≡ accepted tt
  pub none_set : NoneSet no_flips.x × NoneSet no_flips.y
  pub none_only : (flips : List ℕ) → length flips ≡ 32 → Below 256 flips → NoneSet flips → flips ≡ no_flips.x
