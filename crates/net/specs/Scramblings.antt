-- Statements on the product and on what may follow it: what obeys the law of a scrambling, what undoes a scrambling, and that intervals move whole.
use Rattle.std.specs.Prelude.{◌≡◌, List, ℕ, suc, ◌-◌, ◌*◌, ◌%◌, ◌^◌, ◌≤◌, ◌<◌, length, get_or}
use Rattle.ranges.specs.Unique.{Only}
use Rattle.digits.specs.Digits.{digit, plus, minus}
use Rattle.linear.specs.Matrix.{sum}
use Rattle.net.specs.Generators.{entry, product}
use Rattle.net.specs.Sequence.{Sequence, top, VisitIn}
use Rattle.net.specs.Scrambling.{Scrambling, scrambled, PrefixBijection, RightInverse, prefix_before, nested, Permutes, adding}
use Rattle.net.specs.Scrambling.{unnested, LeadsBack, taking}
use Rattle.net.specs.Elimination.{Additive}

-- the product is the matrix product modulo b, row by row; it is additive in the index, and at b ^ c it is column c
pub record MatrixProduct (b R : ℕ) (C : List ℕ) : Type 0 where
  pub rows : (r i : ℕ) → r < R → digit b (R - suc r) (product b C i) ≡ sum (length C) (λ c. entry b R C r c * digit b c i) % b
  pub additive : Additive b (product b C)
  pub columns : (c : ℕ) → product b C (b ^ c) ≡ get_or C c 0

-- What obeys the law of a scrambling: no change, a digital shift, nested scrambling (by additions among others), and one scrambling after
-- another. Each prefix is then taken. Nested scrambling, digit by digit: digit t from the top is permuted as the t digits above it say, as
-- they are before any change.
pub record LawfulScramblings (b R : ℕ) : Type 0 where
  pub unchanged : PrefixBijection b R (λ w. w)
  pub shift : (s : ℕ) → s < b ^ R → PrefixBijection b R (λ w. plus b w s)
  pub nesting : (permute : ℕ → ℕ → ℕ → ℕ) → Permutes b permute → PrefixBijection b R (nested b R permute R)
  pub nested_digits : (permute : ℕ → ℕ → ℕ → ℕ) → Permutes b permute → (t w : ℕ) → t < R
      → digit b (R - suc t) (nested b R permute R w) ≡ permute t (top b R t w) (digit b (R - suc t) w)
  pub additions : (add : ℕ → ℕ → ℕ) → Permutes b (adding b add)
  pub composed : (f g : ℕ → ℕ) → PrefixBijection b R f → PrefixBijection b R g → PrefixBijection b R (λ w. g (f w))
  pub onto : (f : ℕ → ℕ) → PrefixBijection b R f → (t c : ℕ) → t ≤ R → c < b ^ t → (w : ℕ) × (w < b ^ R) × (top b R t (f w) ≡ c)

-- What undoes a scrambling. A shift is undone by the difference, so that t highest digits c were c less the t highest digits of the shift.
-- Nested scrambling is undone digit by digit from the top. One scrambling after another is undone from the last to the first. What undoes a
-- lawful scrambling from one side does so from both.
pub record UndoneScramblings (b R : ℕ) : Type 0 where
  pub shift : (s : ℕ) → s < b ^ R → RightInverse b R (λ w. plus b w s) (λ w. minus b w s)
  pub before_shift : (s t c : ℕ) → prefix_before b R (λ w. minus b w s) t c ≡ minus b c (top b R t s)
  pub nesting : (permute back : ℕ → ℕ → ℕ → ℕ) → Permutes b permute → LeadsBack b permute back
      → RightInverse b R (nested b R permute R) (unnested b R back R)
  pub additions : (add : ℕ → ℕ → ℕ) → LeadsBack b (adding b add) (taking b add)
  pub composed : (f g f' g' : ℕ → ℕ) → RightInverse b R f f' → RightInverse b R g g' → RightInverse b R (λ w. g (f w)) (λ w. f' (g' w))
  pub both_sides : (f g : ℕ → ℕ) → PrefixBijection b R f → RightInverse b R f g → (w : ℕ) → w < b ^ R → g (f w) ≡ w

-- A lawful scrambling F moves whole intervals of any sequence: the only visit of an interval before F is the only visit of its image after
-- F. So, where B is a right inverse of F, the visit of an interval after F is that of the interval to which B leads back.
pub record Moves (S : Sequence) (F : Scrambling) (m a : ℕ) : Type 0 where
  pub moved : (k v w i : ℕ) → v < S.b ^ S.R → w < S.b ^ S.R
      → Only (VisitIn S m a k (top S.b S.R a v) (top S.b S.R (m - a) w)) i
      → Only (VisitIn (scrambled S F) m a k (top S.b S.R a (F.x v)) (top S.b S.R (m - a) (F.y w))) i
  pub led_back : (B : Scrambling) → RightInverse S.b S.R F.x B.x → RightInverse S.b S.R F.y B.y → (k c r i : ℕ)
      → c < S.b ^ a → r < S.b ^ (m - a)
      → Only (VisitIn S m a k (prefix_before S.b S.R B.x a c) (prefix_before S.b S.R B.y (m - a) r)) i
      → Only (VisitIn (scrambled S F) m a k c r) i
