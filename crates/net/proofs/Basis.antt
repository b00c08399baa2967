-- Elimination for a shape gives 01's j, or a basis that answers every query; and how a plain index answers one. Assumes nothing.
use mathlib.Core.Path.{◌≡◌, sym, ap, ap₂, ◌∙◌, subst}
use mathlib.Core.List.{List}
use Prim.Native.Nat.{ℕ, ◌+◌, ◌-◌, ◌*◌, ◌^◌, ◌<◌}
use native.Mathlib.Nat.{lt_of_lt_of_le, pow-le-pow_right}
use native.Mathlib.Omega.{arith}
use Rattle.ranges.specs.Unique.{Only}
use Rattle.digits.proofs.Digit.{pow_pos}
use Rattle.linear.specs.Prime.{Prime}
use Rattle.net.specs.Generators.{Generators}
use Rattle.net.specs.Sequence.{Sequence, VisitIn, Finds, Apart, Least}
use Rattle.net.specs.Scrambling.{Scrambling, plain, digital, Lawful, RightInverse, prefix_before, shifted}
use Rattle.net.specs.Shape.{Shape}
use Rattle.net.specs.Elimination.{serial, interval, plain_interval, Choice, BasisEntry, solve, Eliminated, in_kernel, basis}
use Rattle.net.specs.Elimination.{eliminate_shape, basis_index}
use Rattle.net.specs.Answers.{Solved, Decided}
use Rattle.net.proofs.Scrambling.{unshifted, before_lt, moves}
use Rattle.net.proofs.Interval.{plain_fits, interval_additive, interval_lt, interval-of-share, share-of-interval, interval-zero}
use Rattle.net.proofs.Shape.{apart_iff}
use Rattle.net.proofs.Net.{stratified}
use Rattle.net.proofs.Least.{crowded-of-least, zero-of-crowded}
use Rattle.net.proofs.Elimination.{Sound, eliminate_sound}

module _ {G : Generators} {m a : ℕ} (shape : Shape G m a) where
  open G use {b, R}

  -- The index of a block in an interval, by the plain index: where no two plain visits share an interval, some plain index has the interval
  -- that answers for it, so whatever is that index gives the block's.
  pub index-only : Apart (plain G) m a → (s t : ℕ) → s < b ^ R → t < b ^ R → (k c r : ℕ) → c < b ^ a → r < b ^ (m - a) → (index : ℕ)
      → ((i : ℕ) → i < b ^ m → interval (plain G) m a i ≡ plain_interval (shifted G s t) m a k c r → index ≡ i)
      → Only (VisitIn (shifted G s t) m a k c r) (k * b ^ m + index)
  unfolding interval
  index-only apart s t hs ht k c r hc hr index is =
      let (p, related) = (stratified shape apart).relation s t hs ht k c r hc hr in
      let there = related.plain_visit.holds in
      let below : p < b ^ m = let h = there.in_block.below in omega arith in
      rw (is p below (ap₂ (serial b (m - a)) there.in_column there.in_row)) related.block_visit

  -- the same of the plain sequence, and under a lawful scrambling F by the plain interval to which B, which undoes F, leads back
  module _ (apart : Apart (plain G) m a) where
    index-plain : (k c r : ℕ) → c < b ^ a → r < b ^ (m - a) → (index : ℕ)
        → ((i : ℕ) → i < b ^ m → interval (plain G) m a i ≡ plain_interval (plain G) m a k c r → index ≡ i)
        → Only (VisitIn (plain G) m a k c r) (k * b ^ m + index)
    index-plain k c r hc hr index =
        let big = shape.valid.base in
        let positive = pow_pos big R in
        subst (λ (S : Sequence). ((i : ℕ) → i < b ^ m → interval (plain G) m a i ≡ plain_interval S m a k c r → index ≡ i)
        → Only (VisitIn S m a k c r) (k * b ^ m + index)) (unshifted G big) (index-only apart 0 0 positive positive k c r hc hr index)

    module _ {F B : Scrambling} (lawful : Lawful b R F) (ux : RightInverse b R F.x B.x) (uy : RightInverse b R F.y B.y) where
      pub index-scrambled : (k c r : ℕ) → c < b ^ a → r < b ^ (m - a) → (index : ℕ)
          → ((i : ℕ) → i < b ^ m
          → interval (plain G) m a i ≡ plain_interval (plain G) m a k (prefix_before b R B.x a c) (prefix_before b R B.y (m - a) r)
          → index ≡ i)
          → Only (VisitIn (digital G F) m a k c r) (k * b ^ m + index)
      index-scrambled k c r hc hr index is =
          let big = shape.valid.base in
          let wide = shape.wide in
          let fits = shape.fits in
          (moves big (plain_fits shape.valid) lawful m a wide fits).led_back B ux uy k c r (k * b ^ m + index) hc hr
          (index-plain k _ _ (before_lt big R ux a c (omega arith) hc) (before_lt big R uy (m - a) r (omega arith) hr) index is)

  -- what leads back from the intervals to the plain indexes answers every query
  module _ (inverse : ℕ → ℕ) (back : (i : ℕ) → i < b ^ m → inverse (interval (plain G) m a i) ≡ i) where
    pub inverse_apart : Apart (plain G) m a
    inverse_apart i j hi hj s = sym (back i hi) ∙ ap inverse (interval-of-share shape i j s) ∙ back j hj

    pub inverse-only : (s t : ℕ) → s < b ^ R → t < b ^ R → (k c r : ℕ) → c < b ^ a → r < b ^ (m - a)
        → Only (VisitIn (shifted G s t) m a k c r) (k * b ^ m + inverse (plain_interval (shifted G s t) m a k c r))
    inverse-only s t hs ht k c r hc hr =
        index-only inverse_apart s t hs ht k c r hc hr (inverse (plain_interval (shifted G s t) m a k c r))
        (λ i h e. ap inverse (sym e) ∙ back i h)

    pub inverse-plain : (k c r : ℕ) → c < b ^ a → r < b ^ (m - a)
        → Only (VisitIn (plain G) m a k c r) (k * b ^ m + inverse (plain_interval (plain G) m a k c r))
    inverse-plain k c r hc hr = index-plain inverse_apart k c r hc hr _ (λ i h e. ap inverse (sym e) ∙ back i h)

    pub inverse-scrambled : {F B : Scrambling} → Lawful b R F → RightInverse b R F.x B.x → RightInverse b R F.y B.y
        → (k c r : ℕ) → c < b ^ a → r < b ^ (m - a)
        → Only (VisitIn (digital G F) m a k c r)
        (k * b ^ m + inverse (plain_interval (plain G) m a k (prefix_before b R B.x a c) (prefix_before b R B.y (m - a) r)))
    inverse-scrambled lawful ux uy k c r hc hr =
        index-scrambled inverse_apart lawful ux uy k c r hc hr _ (λ i h e. ap inverse (sym e) ∙ back i h)

module _ {G : Generators} {m a : ℕ} (shape : Shape G m a) (prime : Prime G.b) where
  open G use {b, R}

  module _ (fs : List BasisEntry) (back : (i : ℕ) → i < b ^ m → solve b (interval (plain G) m a) fs (interval (plain G) m a i) ≡ i) where
    answers : (s t : ℕ) → s < b ^ R → t < b ^ R → (k : ℕ) → Finds (shifted G s t) m a k (basis_index G (shifted G s t) fs m a k)
    unfolding basis_index
    answers s t hs ht k c r hc hr = inverse-only shape (solve b (interval (plain G) m a) fs) back s t hs ht k c r hc hr

    scrambled-answers : (F B : Scrambling) → Lawful b R F → RightInverse b R F.x B.x → RightInverse b R F.y B.y → (k : ℕ)
        → Finds (digital G F) m a k
        (λ c r. basis_index G (plain G) fs m a k (prefix_before b R B.x a c) (prefix_before b R B.y (m - a) r))
    unfolding basis_index
    scrambled-answers F B lawful ux uy k c r hc hr =
        inverse-scrambled shape (solve b (interval (plain G) m a) fs) back lawful ux uy k c r hc hr

    solved : Solved G m a fs
    solved = record {
      nonzero = (apart_iff shape prime).1 (inverse_apart shape (solve b (interval (plain G) m a) fs) back);
      answers_shifted = answers;
      answers_plain = λ k.
          let positive = pow_pos prime.big R in
          subst (λ (S : Sequence). Finds S m a k (basis_index G S fs m a k)) (unshifted G prime.big) (answers 0 0 positive positive k);
      answers_scrambled = scrambled-answers;
    }

  pub eliminated : (C : Choice b R) → Decided G m a (eliminate_shape G C m a)
  unfolding eliminate_shape
  eliminated C = read (eliminate_shape G C m a) (eliminate_sound prime (interval_additive shape) C small m)
    where
      small : (i : ℕ) → interval (plain G) m a i < b ^ R
      small i = lt_of_lt_of_le (interval_lt shape i) (pow-le-pow_right (omega (arith, prime.big)) shape.fits)

      origin : interval (plain G) m a 0 ≡ 0
      origin = interval-zero shape

      read : (o : Eliminated) → Sound b (interval (plain G) m a) m o → Decided G m a o
      read (in_kernel j) (below, s) =
          let least : Least (plain G) m a j = record {
            positive = s.positive;
            below = below;
            shares = share-of-interval shape j 0 (s.vanishes ∙ sym origin);
            least = λ i h q. s.least i h (interval-of-share shape i 0 q ∙ origin);
          } in
          record { zero = zero-of-crowded shape prime (crowded-of-least (plain G) m a j least); least = least }
      read (basis fs) back = solved fs back
