-- Statements on one visit in each interval: the net theorem, the relation to the plain run, the test by determinants, the standard matrices;
-- and on how many of consecutive visits an interval then has.
use Rattle.std.specs.Prelude.{◌≡◌, ◌≢◌, ◌↔◌, ℕ, suc, ◌+◌, ◌-◌, ◌*◌, ◌/◌, ◌%◌, ◌^◌, ◌≤◌, ◌<◌, get_or}
use Rattle.ranges.specs.Unique.{Only}
use Rattle.ranges.specs.Bounds.{CountBounds}
use Rattle.digits.specs.Digits.{reversed, plus}
use Rattle.net.specs.Generators.{Generators, Valid, entry, product}
use Rattle.net.specs.Sequence.{VisitIn, Finds, column_less, row_less, Apart, Alone}
use Rattle.net.specs.Scrambling.{Scrambling, plain, digital, Lawful, shifted}
use Rattle.net.specs.Shape.{determinant, Passes}
use Rattle.net.specs.Query.{visit_index}
use Rattle.net.specs.Standard.{binomial, standard}
use Rattle.net.specs.Run.{visits, run, hits}

-- for an added shift: the index of block k in an interval is the block's first plus p, where p is the plain index for the interval
-- less that of the block's first
pub record Related (G : Generators) (s t m a k c r p : ℕ) : Type 0 where
  pub plain_visit : Only (VisitIn (plain G) m a 0 (column_less (shifted G s t) m a k c) (row_less (shifted G s t) m a k r)) p
  pub block_visit : Only (VisitIn (shifted G s t) m a k c r) (k * G.b ^ m + p)

-- each block visits each interval of the shape exactly once, under any lawful scrambling, and its visits are related to the plain run
pub record Stratified (G : Generators) (m a : ℕ) : Type 0 where
  pub one_visit : (F : Scrambling) → Lawful G.b G.R F → (k : ℕ) → Finds (digital G F) m a k (visit_index (digital G F) m a k)
  pub relation : (s t : ℕ) → s < G.b ^ G.R → t < G.b ^ G.R → (k c r : ℕ) → c < G.b ^ a → r < G.b ^ (m - a)
      → (p : ℕ) × Related G s t m a k c r p

-- the determinant of a shape is not 0 exactly where no interval holds two plain visits, exactly where index 0 is alone in its own,
-- exactly where the plain run visits each interval once, and exactly where every block does so under any lawful scrambling (`Stratified`)
pub record NetTest (G : Generators) (m a : ℕ) : Type 0 where
  pub apart_iff : (determinant G m a ≢ 0) ↔ Apart (plain G) m a
  pub alone_iff : (determinant G m a ≢ 0) ↔ Alone (plain G) m a
  pub plain_iff : (determinant G m a ≢ 0) ↔ Finds (plain G) m a 0 (visit_index (plain G) m a 0)
  pub stratified_iff : (determinant G m a ≢ 0) ↔ Stratified G m a

-- what passing level M is worth: the same in every shape of a size from 0 to M; each block is a (0, m, 2)-net in the words of the literature, and
-- its run has one visit in each interval; and between which bounds the number of any n consecutive visits in an interval lies (C-15)
pub record Net (G : Generators) (M : ℕ) : Type 0 where
  pub stratified : (m a : ℕ) → m ≤ M → a ≤ m → Stratified G m a
  pub one_hit : (F : Scrambling) → Lawful G.b G.R F → (m a k c r : ℕ) → m ≤ M → a ≤ m → c < G.b ^ a → r < G.b ^ (m - a)
      → hits (digital G F) m a c r (run (digital G F) m k) ≡ 1
  pub counts : (F : Scrambling) → Lawful G.b G.R F → (m a c r : ℕ) → m ≤ M → a ≤ m → c < G.b ^ a → r < G.b ^ (m - a)
      → (start n : ℕ) → 1 ≤ n → CountBounds start n (G.b ^ m) (hits (digital G F) m a c r (visits (digital G F) start n))

-- Identity and Pascal's triangle modulo b, with n columns. The columns of the first are powers of b, and its product is the reversal of the
-- index; the entries of the second are binomials. Each column follows from the one before. Both together pass every shape.
pub record StandardLaws (b R n : ℕ) : Type 0 where
  pub identity : (c : ℕ) → c < R → get_or (standard b R n).X c 0 ≡ b ^ (R - suc c)
  pub identity_beyond : (c : ℕ) → R ≤ c → get_or (standard b R n).X c 0 ≡ 0
  pub pascal : (r c : ℕ) → r < R → c < n → entry b R (standard b R n).Y r c ≡ binomial c r % b
  pub identity_next : (c : ℕ) → suc c < n → get_or (standard b R n).X (suc c) 0 ≡ get_or (standard b R n).X c 0 / b
  pub pascal_next : (c : ℕ) → suc c < n
      → get_or (standard b R n).Y (suc c) 0 ≡ plus b (get_or (standard b R n).Y c 0) (get_or (standard b R n).Y c 0 / b)
  pub reversal : (i : ℕ) → product b (standard b R n).X i ≡ reversed b R i
  pub valid : Valid (standard b R n)
  pub stratified : (m a : ℕ) → m ≤ R → a ≤ m → Stratified (standard b R n) m a
  pub passes : Passes (standard b R n) R
