-- The columns of the standard matrices: entry by entry as in 01, each from the one before, and the product with the first of them.
-- Assumes nothing.
use mathlib.Core.Path.{◌≡◌, refl, sym, ap, ap₂, ◌∙◌, subst}
use mathlib.Core.Logic.{◌⊎◌, inl, inr, ◌≢◌}
use mathlib.Core.List.{List, ◌∷◌, map}
use Prim.Native.Nat.{ℕ, zero, suc, ◌+◌, ◌-◌, ◌*◌, ◌/◌, ◌%◌, ◌^◌, ◌≤◌, ◌<◌}
use native.Mathlib.Nat.{mod-one, mod-mod, mod-lt, mod-eq_of_lt, div_self, div-eq_of_lt, mul-mod_left, pow-zero, pow-suc, zero-mod}
use native.Mathlib.Nat.{add-zero, add-mod, div-div-eq-div-mul, mul-div_cancel, lt_of_le_of_lt}
use native.Mathlib.Nat.{div-le_self, div-lt_self}
use native.Mathlib.Omega.{arith}
use borrow.Author.Tests.{lt-ltb, le-ltb, eq-eqb, ne_eqb}
use lib.Arith.{digits_div, digits_mod}
use lib.Dec.{eqb}
use Rattle.ranges.specs.Range.{range}
use Rattle.ranges.specs.Count.{indicator}
use Rattle.ranges.proofs.Order.{lt_or_ge}
use Rattle.ranges.proofs.Below.{below-map}
use Rattle.digits.specs.Digits.{digit, reversed, plus}
use Rattle.digits.proofs.Digit.{pow_pos, pow-one, pow_lt, pow-div, digit-suc, digit-high, digit_zero, digit-from_digits, from_digits_lt}
use Rattle.digits.proofs.Digit.{ext_below, mod-pow-suc}
use Rattle.digits.proofs.Arithmetic.{digit-plus, plus_lt, plus_split, times-pow}
use Rattle.digits.proofs.Reversed.{reversed_lt, reversed-zero, reversed-more, reversed-suc, reversed-mod, reversed-twice}
use Rattle.net.specs.Generators.{Generators, Valid, product}
use Rattle.net.specs.Elimination.{Additive}
use Rattle.net.specs.Standard.{binomial, identity_column, pascal_column, standard}
use Rattle.net.proofs.Product.{product_lt, product-map}
use Rattle.net.proofs.Standard.{iterate, add_down, iterated, x₀_lt, horner, move_down-additive}

-- an entry of the identity
abbrev pub same : ℕ → ℕ → ℕ
same r c = indicator (eqb r c)

same_eq : (r c : ℕ) → r ≡ c → same r c ≡ 1
unfolding indicator
same_eq r c e = ap indicator (eq-eqb r c e)

same_ne : (r c : ℕ) → r ≢ c → same r c ≡ 0
unfolding indicator
same_ne r c ne = ap indicator (ne_eqb r c ne)

-- a list over a range whose function steps by g
iterate-each : (f g : ℕ → ℕ) → ((c : ℕ) → f (suc c) ≡ g (f c)) → (n s x : ℕ) → f s ≡ x → map f (range s n) ≡ iterate g n x
unfolding range iterate
iterate-each f g h zero s x e = refl
iterate-each f g h (suc n) s x e =
    ap₂ (λ (y : ℕ) (l : List ℕ). y ∷ l) e (iterate-each f g h n (suc s) (g x) (h s ∙ ap g e))

module _ {b : ℕ} (big : 1 < b) (R : ℕ) where
  -- ---- the identity

  pub identity-high : (c : ℕ) → R ≤ c → identity_column b R c ≡ 0
  unfolding identity_column
  identity-high c h = rw (le-ltb c R h, identity_column) refl

  pub identity-low : (c : ℕ) → c < R → identity_column b R c ≡ b ^ (R - suc c)
  unfolding identity_column
  identity-low c h = rw (lt-ltb c R h, identity_column) refl

  -- the one moves down a row at each column, and out
  identity_is : (c : ℕ) → identity_column b R c ≡ b ^ R / b ^ suc c
  identity_is c = go (lt_or_ge c R)
    where
      go : (c < R) ⊎ (R ≤ c) → identity_column b R c ≡ b ^ R / b ^ suc c
      go (inl h) =
          let e : R ≡ R - suc c + suc c = omega arith in
          identity-low c h ∙ sym (ap (λ (k : ℕ). b ^ k / b ^ suc c) e ∙ pow-div big (R - suc c) (suc c))
      go (inr h) = identity-high c h ∙ sym (div-eq_of_lt (pow_lt big R (suc c) (omega arith)))

  pub identity-step : (c : ℕ) → identity_column b R (suc c) ≡ identity_column b R c / b
  identity-step c =
      identity_is (suc c) ∙ ap (λ (x : ℕ). b ^ R / x) (pow-suc b (suc c))
      ∙ sym (div-div-eq-div-mul (b ^ R) (b ^ suc c) b) ∙ ap (λ (x : ℕ). x / b) (sym (identity_is c))

  -- row r, column c: one exactly where r is c
  pub identity-entry : (r c : ℕ) → r < R → digit b (R - suc r) (identity_column b R c) ≡ same r c
  identity-entry r c hr = go (lt_or_ge c R) (lt_or_ge r c) (lt_or_ge c r)
    where
      none : r ≢ c → 0 ≡ same r c
      none ne = sym (same_ne r c ne)

      go : (c < R) ⊎ (R ≤ c) → (r < c) ⊎ (c ≤ r) → (c < r) ⊎ (r ≤ c) → digit b (R - suc r) (identity_column b R c) ≡ same r c
      go (inr h) before after =
          let ne : r ≢ c = omega arith in
          ap (digit b (R - suc r)) (identity-high c h) ∙ digit_zero big (R - suc r) ∙ none ne
      go (inl h) (inl l) after =
          let ne : r ≢ c = omega arith in
          ap (digit b (R - suc r)) (identity-low c h)
          ∙ ap (λ (x : ℕ). x % b) (div-eq_of_lt (pow_lt big (R - suc c) (R - suc r) (omega arith))) ∙ zero-mod b ∙ none ne
      go (inl h) (inr l) (inl g) =
          let ne : r ≢ c = omega arith in
          let e : R - suc c ≡ suc (r - suc c) + (R - suc r) = omega arith in
          ap (digit b (R - suc r)) (identity-low c h ∙ ap (λ (k : ℕ). b ^ k) e)
          ∙ ap (λ (x : ℕ). x % b) (pow-div big (suc (r - suc c)) (R - suc r) ∙ pow-suc b (r - suc c)) ∙ mul-mod_left (b ^ (r - suc c)) b ∙ none ne
      go (inl h) (inr l) (inr g) =
          let e : r ≡ c = omega arith in
          ap (λ (k : ℕ). digit b (R - suc k) (identity_column b R c)) e ∙ ap (digit b (R - suc c)) (identity-low c h)
          ∙ ap (λ (x : ℕ). x % b) (div_self (pow_pos big (R - suc c))) ∙ mod-eq_of_lt big ∙ sym (same_eq r c e)

  -- ---- Pascal's triangle

  pub pascal_lt : (c : ℕ) → pascal_column b R c < b ^ R
  unfolding pascal_column
  pascal_lt c = from_digits_lt big R _

  pascal-digit : (c k : ℕ) → k < R → digit b k (pascal_column b R c) ≡ binomial c (R - suc k) % b
  unfolding pascal_column
  pascal-digit c k h = digit-from_digits big R k (λ k. binomial c (R - suc k)) h

  -- row r, column c: the binomial
  pub pascal-entry : (r c : ℕ) → r < R → digit b (R - suc r) (pascal_column b R c) ≡ binomial c r % b
  pascal-entry r c h =
      let e : R - suc (R - suc r) ≡ r = omega arith in
      pascal-digit c (R - suc r) (omega arith) ∙ ap (λ (k : ℕ). binomial c k % b) e

  -- each row with the row above it
  pub pascal-step : (c : ℕ) → pascal_column b R (suc c) ≡ plus b (pascal_column b R c) (pascal_column b R c / b)
  unfolding binomial
  pascal-step c =
      ext_below big R (pascal_column b R (suc c)) (plus b y (y / b)) (pascal_lt (suc c))
      (plus_lt big R y (y / b) (pascal_lt c) (lt_of_le_of_lt (div-le_self y b) (pascal_lt c))) (λ k h.
      pascal-digit (suc c) k h ∙ sum k h (R - suc k) refl ∙ sym (digit-plus big y (y / b) k
      ∙ ap₂ (λ (u v : ℕ). (u + v) % b) (pascal-digit c k h) (sym (digit-suc big k y))))
    where
      y : ℕ
      y = pascal_column b R c

      sum : (k : ℕ) → k < R → (r : ℕ) → R - suc k ≡ r → binomial (suc c) r % b ≡ (binomial c r % b + digit b (suc k) y) % b
      sum k h zero e =
          sym (ap (λ (x : ℕ). (1 % b + x) % b) (digit-high big R (suc k) y (pascal_lt c) (omega arith))
          ∙ ap (λ (x : ℕ). x % b) (add-zero (1 % b)) ∙ mod-mod 1 b)
      sum k h (suc r) e =
          let above : R - suc (suc k) ≡ r = omega arith in
          add-mod (binomial c (suc r)) (binomial c r) b
          ∙ ap (λ (x : ℕ). (binomial c (suc r) % b + x) % b) (sym (pascal-digit c (suc k) (omega arith) ∙ ap (λ (x : ℕ). binomial c x % b) above))

  -- ---- the first column, and so all of them

  identity-first : identity_column b R 0 ≡ b ^ R / b
  identity-first = identity_is 0 ∙ ap (λ (x : ℕ). b ^ R / x) (pow-one big)

  pascal-first : pascal_column b R 0 ≡ b ^ R / b
  unfolding binomial
  pascal-first =
      ext_below big R (pascal_column b R 0) (b ^ R / b) (pascal_lt 0) (x₀_lt big R) (λ k h.
      pascal-digit 0 k h ∙ first (R - suc k)
      ∙ sym (ap (digit b k) (sym identity-first) ∙ ap (λ (x : ℕ). digit b x (identity_column b R 0)) (place k h)
      ∙ identity-entry (R - suc k) 0 (omega arith)))
    where
      place : (k : ℕ) → k < R → k ≡ R - suc (R - suc k)
      place k h = omega arith

      first : (r : ℕ) → binomial 0 r % b ≡ same r 0
      first zero = mod-eq_of_lt big ∙ sym (same_eq 0 0 refl)
      first (suc r) = zero-mod b ∙ sym (same_ne (suc r) 0 (omega arith))

  identity_lt : (c : ℕ) → identity_column b R c < b ^ R
  identity_lt c =
      let above : b ^ 0 < b ^ suc c = pow_lt big 0 (suc c) (omega arith) in
      rw (identity_is c) (div-lt_self (pow_pos big R) (rw pow-zero at above))

  pub standard-valid : (n : ℕ) → Valid (standard b R n)
  standard-valid n = record {
    base = big;
    X_fits = below-map (b ^ R) (identity_column b R) (range 0 n) identity_lt;
    Y_fits = below-map (b ^ R) (pascal_column b R) (range 0 n) pascal_lt;
  }

  pub standard_is : (n : ℕ) → standard b R n ≡ iterated b R n
  unfolding add_down
  standard_is n = λ i. record {
    b = b;
    R = R;
    X = iterate-each (identity_column b R) (λ x. x / b) identity-step n 0 (b ^ R / b) identity-first i;
    Y = iterate-each (pascal_column b R) (add_down b) pascal-step n 0 (b ^ R / b) pascal-first i;
  }

-- ---- the product with the identity is the reversal of the index

module _ {b : ℕ} (big : 1 < b) where
  -- by Horner's rule: the lowest digit of i comes first, the others move down
  move_down-product : (Q n i : ℕ) → product b (iterate (λ x. x / b) n (b ^ Q)) i ≡ reversed b (suc Q) (i % b ^ n)
  unfolding iterate product
  move_down-product Q zero i = sym (ap (reversed b (suc Q)) (rw pow-zero (mod-one i)) ∙ reversed-zero big (suc Q))
  move_down-product Q (suc n) i =
      let t = i % b in
      let j = i / b % b ^ n in
      let ht = mod-lt i {m = b} (omega arith) in
      let split : i % b ^ suc n ≡ j * b + t = mod-pow-suc big n i in
      let down : reversed b (suc Q) j / b ≡ reversed b Q j =
      ap (λ (x : ℕ). x / b) (reversed-more big Q j) ∙ digits_div (reversed b Q j) (mod-lt (j / b ^ Q) (omega arith)) in
      horner big (move_down-additive big) n (b ^ Q) i
      ∙ ap₂ (plus b) (times-pow big t Q ht) (ap (λ (x : ℕ). x / b) (move_down-product Q n (i / b)) ∙ down)
      ∙ plus_split big Q t (reversed b Q j) (reversed_lt big Q j)
      ∙ sym (ap (reversed b (suc Q)) split ∙ reversed-suc big Q (j * b + t)
      ∙ ap₂ (λ (x y : ℕ). x * b ^ Q + reversed b Q y) (digits_mod j ht) (digits_div j ht))

  pub identity-product : (R n i : ℕ) → R ≤ n → product b (standard b R n).X i ≡ reversed b R i
  identity-product zero n i h =
      let l = product_lt big 0 (standard b 0 n).X i (standard-valid big 0 n).X_fits in
      omega (arith, rw pow-zero at l, rw pow-zero at (reversed_lt big 0 i))
  identity-product (suc Q) n i h =
      ap (λ (C : List ℕ). product b C i) (ap (λ (G : Generators). G.X) (standard_is big (suc Q) n))
      ∙ ap (λ (x : ℕ). product b (iterate (λ x. x / b) n x) i) (ap (λ (x : ℕ). x / b) (pow-suc b Q) ∙ mul-div_cancel (b ^ Q) (omega arith))
      ∙ move_down-product Q n i ∙ reversed-mod big n (suc Q) i h

-- ---- an additive map is known from the columns of the identity

module _ {b : ℕ} {L : ℕ → ℕ} (A : Additive b L) (R n w : ℕ) (h : R ≤ n) (l : w < b ^ R) where
  -- on numbers of R digits it is the product with its images of these columns
  pub additive-product : L w ≡ product b (map L (standard b R n).X) (reversed b R w)
  additive-product =
      ap L (sym (identity-product A.base R n (reversed b R w) h ∙ reversed-twice A.base R w l))
      ∙ product-map A (standard b R n).X (reversed b R w)

  -- and Pascal's triangle, where it sends each of them to the triangle's: a test that computes
  pub additive-pascal : map L (iterated b R n).X ≡ (iterated b R n).Y → L w ≡ product b (standard b R n).Y (reversed b R w)
  additive-pascal test =
      additive-product
      ∙ ap (λ (C : List ℕ). product b C (reversed b R w))
      (subst (λ (G : Generators). map L G.X ≡ G.Y) (sym (standard_is A.base R n)) test)
