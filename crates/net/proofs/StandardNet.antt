-- The standard matrices are stratified in every base, and no determinant of theirs is 0, in every base: modulo a prime divisor of
-- the base they are the standard matrices of that prime. Assumes nothing.
use mathlib.Core.Path.{◌≡◌, sym, ap, ◌∙◌, subst}
use mathlib.Core.Logic.{◌⊎◌, inl, inr, ◌≢◌}
use mathlib.Core.List.{map}
use Prim.Native.Nat.{ℕ, suc, ◌-◌, ◌/◌, ◌%◌, ◌≤◌, ◌<◌, ◌∣◌}
use native.Mathlib.Nat.{zero-add, mod-mod, zero-mod, mod-mod_of_dvd}
use native.Mathlib.Omega.{arith}
use borrow.Author.Tests.{lt-ltb, le-ltb}
use lib.ListN.{get_or, get_or-eq_default}
use Rattle.ranges.specs.Range.{range}
use Rattle.ranges.proofs.Order.{lt_or_ge}
use Rattle.ranges.proofs.Range.{length-each, getD_each}
use Rattle.digits.specs.Digits.{digit, plus}
use Rattle.linear.proofs.Modulo.{det-mod}
use Rattle.linear.proofs.Divisor.{prime_divisor, det_divisor}
use Rattle.net.specs.Generators.{Generators, entry}
use Rattle.net.specs.Sequence.{Alone}
use Rattle.net.specs.Scrambling.{plain}
use Rattle.net.specs.Shape.{Shape, matrix, determinant}
use Rattle.net.specs.Standard.{binomial, identity_column, pascal_column, standard}
use Rattle.net.specs.Net.{StandardLaws}
use Rattle.net.proofs.Shape.{alone_iff, apart_of_alone}
use Rattle.net.proofs.Net.{stratified}
use Rattle.net.proofs.Standard.{alone}
use Rattle.net.proofs.Columns.{same, identity-high, identity-low, identity-step, identity-entry, pascal-entry, pascal-step}
use Rattle.net.proofs.Columns.{standard-valid, standard_is, identity-product}

-- column c of a matrix that is made over a range
column-at : (f : ℕ → ℕ) (n c : ℕ) → c < n → get_or (map f (range 0 n)) c 0 ≡ f c
column-at f n c h = getD_each f 0 n c 0 h ∙ ap f (zero-add c)

module _ {b : ℕ} (big : 1 < b) (R n : ℕ) where
  X-entry : (r c : ℕ) → r < R → c < n → entry b R (standard b R n).X r c ≡ same r c
  X-entry r c hr hc = ap (digit b (R - suc r)) (column-at (identity_column b R) n c hc) ∙ identity-entry big R r c hr

  Y-entry : (r c : ℕ) → r < R → c < n → entry b R (standard b R n).Y r c ≡ binomial c r % b
  Y-entry r c hr hc = ap (digit b (R - suc r)) (column-at (pascal_column b R) n c hc) ∙ pascal-entry big R r c hr

  shape : {m a : ℕ} → m ≤ R → a ≤ m → Shape (standard b R n) m a
  shape h l = record { valid = standard-valid big R n; wide = l; fits = h }

  module _ (long : R ≤ n) where
    standard_alone : (m a : ℕ) → m ≤ R → a ≤ m → Alone (plain (standard b R n)) m a
    standard_alone m a h l = subst (λ (G : Generators). Alone (plain G) m a) (sym (standard_is big R n)) (alone big R n long m a l h)

-- the matrices of a shape modulo a divisor of the base
entries : {b p : ℕ} → 1 < b → 1 < p → p ∣ b → (R n : ℕ) → R ≤ n → (m a r c : ℕ) → m ≤ R → r < m → c < m
    → matrix (standard b R n) a r c % p ≡ matrix (standard p R n) a r c % p
unfolding matrix
entries {b} {p} big above divides R n long m a r c h hr hc = go (lt_or_ge r a)
  where
    go : (r < a) ⊎ (a ≤ r) → matrix (standard b R n) a r c % p ≡ matrix (standard p R n) a r c % p
    go (inl l) = rw (lt-ltb r a l, matrix) (ap (λ (x : ℕ). x % p)
        (X-entry big R n r c (omega arith) (omega arith) ∙ sym (X-entry above R n r c (omega arith) (omega arith))))
    go (inr l) = rw (le-ltb r a l, matrix) (ap (λ (x : ℕ). x % p) (Y-entry big R n (r - a) c (omega arith) (omega arith))
        ∙ mod-mod_of_dvd p (binomial c (r - a)) divides
        ∙ sym (ap (λ (x : ℕ). x % p) (Y-entry above R n (r - a) c (omega arith) (omega arith)) ∙ mod-mod (binomial c (r - a)) p))

nonzero : {b : ℕ} → 1 < b → (R n : ℕ) → R ≤ n → (m a : ℕ) → m ≤ R → a ≤ m → determinant (standard b R n) m a ≢ 0
nonzero {b} big R n long m a h l e =
    let (p, prime, divides) = prime_divisor b big in
    let above = prime.big in
    (alone_iff (shape above R n h l) prime).1 (standard_alone above R n long m a h l)
    (det-mod above m (matrix (standard p R n) a) (matrix (standard b R n) a)
    (λ r c hr hc. sym (entries big above divides R n long m a r c h hr hc))
    ∙ sym (det_divisor big above divides m (matrix (standard b R n) a)) ∙ ap (λ (x : ℕ). x % p) e ∙ zero-mod p)

pub standard_laws : {b : ℕ} → 1 < b → (R n : ℕ) → R ≤ n → StandardLaws b R n
standard_laws {b} big R n long = record {
  identity = λ c h. column-at (identity_column b R) n c (omega arith) ∙ identity-low big R c h;
  identity_beyond = λ c h. beyond c h (lt_or_ge c n);
  pascal = Y-entry big R n;
  identity_next = λ c h.
      column-at (identity_column b R) n (suc c) h ∙ identity-step big R c
      ∙ ap (λ (x : ℕ). x / b) (sym (column-at (identity_column b R) n c (omega arith)));
  pascal_next = λ c h.
      column-at (pascal_column b R) n (suc c) h ∙ pascal-step big R c
      ∙ ap (λ (x : ℕ). plus b x (x / b)) (sym (column-at (pascal_column b R) n c (omega arith)));
  reversal = λ i. identity-product big R n i long;
  valid = standard-valid big R n;
  stratified = λ m a h l. stratified (shape big R n h l) (apart_of_alone (shape big R n h l) (standard_alone big R n long m a h l));
  passes = record { nonzero = λ m a p h l. nonzero big R n long m a h l };
}
  where
    beyond : (c : ℕ) → R ≤ c → (c < n) ⊎ (n ≤ c) → get_or (standard b R n).X c 0 ≡ 0
    beyond c h (inl l) = column-at (identity_column b R) n c l ∙ identity-high big R c h
    beyond c h (inr l) = get_or-eq_default (standard b R n).X 0 (rw (length-each (identity_column b R) 0 n) l)
