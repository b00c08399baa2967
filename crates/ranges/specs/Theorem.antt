-- What is proved of ranges: the pigeonhole principle, how many of a range pass a test that one of each block passes, and the steps of a walk
-- as one list. First the statements, as records; at the end `Theorems`, the whole list with the assumption of each, of which proofs/Theorem
-- gives one term.
use Rattle.std.specs.Prelude.{◌≡◌, Bool, ℕ, suc, ◌+◌, ◌-◌, ◌*◌, ◌/◌, ◌≤◌, ◌<◌, min}
use Rattle.ranges.specs.Range.{range}
use Rattle.ranges.specs.Count.{count}
use Rattle.ranges.specs.Bounds.{ceiling, IsCeiling, OneInEach, CountBounds}
use Rattle.ranges.specs.Walk.{Walk, answers, after, visits_then_end}

-- a function from the numbers below N to themselves that takes no value twice takes each
pub record Pigeonhole (N : ℕ) : Type 0 where
  pub onto : (f : ℕ → ℕ) → ((i : ℕ) → i < N → f i < N) → ((i j : ℕ) → i < N → j < N → f i ≡ f j → i ≡ j)
      → (y : ℕ) → y < N → (i : ℕ) × (i < N) × (f i ≡ y)

-- ONE claim about the list of n steps on a walk opened at `start` with `count`, steps after the end included: the visits of the
-- indexes from the start on, as many as the smaller of n and count, and then the end. And what the last walk holds.
pub record Walked {A : Type 0} (visit-of : ℕ → A) (last start count n : ℕ) : Type 0 where
  pub list : answers visit-of last n (record { next = start; left = count }) ≡ visits_then_end visit-of n start count
  pub next : (after visit-of last n (record { next = start; left = count })).next ≡ min (start + min n count) last
  pub left : (after visit-of last n (record { next = start; left = count })).left ≡ count - n

-- the list for a walk made by hand: it gives no visit past the last index
pub record WalkedByHand {A : Type 0} (visit-of : ℕ → A) (last : ℕ) (w : Walk) (n : ℕ) : Type 0 where
  pub list : answers visit-of last n w ≡ visits_then_end visit-of n w.next (min w.left (suc last - w.next))

pub record Theorems : Type 1 where
  pub pigeonhole : (N : ℕ) → Pigeonhole N
  pub ceilings : (n d : ℕ) → 0 < d → IsCeiling n d (ceiling n d)
  pub count_bounds : (test : ℕ → Bool) (B : ℕ) → OneInEach test B → (start n : ℕ) → 1 ≤ n → CountBounds start n B (count test (range start n))
  -- what these bounds come to from the first number of a block on: n / B, rounded down and up
  pub from_block : {B : ℕ} → 0 < B → (k n many : ℕ) → CountBounds (k * B) n B many → (n / B ≤ many) × (many ≤ ceiling n B)
  -- and in blocks of one number: the least and the most, from any start, are n
  pub blocks_of_one : (n : ℕ) → 1 ≤ n → ((n + 1) / 1 - 1 ≡ n) × (ceiling (n - 1) 1 + 1 ≡ n)
  -- of walks over any visits
  pub walked : {A : Type 0} (visit-of : ℕ → A) (last start count n : ℕ) → start ≤ last → start + count ≤ suc last
      → Walked visit-of last start count n
  pub walked_by_hand : {A : Type 0} (visit-of : ℕ → A) (last : ℕ) (w : Walk) (n : ℕ) → WalkedByHand visit-of last w n
