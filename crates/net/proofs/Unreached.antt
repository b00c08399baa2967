-- Not every shape reaches the bounds of C-15. Of 50 consecutive visits of the standard matrices in base two, under any lawful scrambling, no
-- interval of the shape (4, 2) has 5, which is the bound. The idea: 5 would need the last index of a block and the first of the fourth block
-- after it, which is 49 further on, in one column; but one of the two is odd and the other even. Assumes nothing.
use mathlib.Core.Path.{◌≡◌, refl, sym, ap, ◌∙◌, subst}
use mathlib.Core.Logic.{◌⊎◌, inl, inr}
use mathlib.Core.Bool.{Bool, true, false}
use Prim.Native.Nat.{ℕ, ◌+◌, ◌*◌, ◌/◌, ◌%◌, ◌^◌, ◌≤◌, ◌<◌}
use native.Mathlib.Omega.{arith}
use Rattle.ranges.specs.Range.{range}
use Rattle.ranges.specs.Count.{indicator, count}
use Rattle.ranges.specs.Bounds.{ceiling, OneInEach, CountBounds}
use Rattle.ranges.proofs.Order.{lt_or_ge}
use Rattle.ranges.proofs.Count.{count_add}
use Rattle.ranges.proofs.Bounds.{count_bounds}
use Rattle.digits.specs.Digits.{reversed}
use Rattle.digits.proofs.Two.{one_lt_two}
use Rattle.digits.proofs.Reversed.{digit-reversed}
use Rattle.linear.proofs.Prime.{two}
use Rattle.net.specs.Sequence.{Sequence, column, lies}
use Rattle.net.specs.Scrambling.{Scrambling, digital, Lawful}
use Rattle.net.specs.Run.{visits, hits}
use Rattle.net.specs.Standard.{standard}
use Rattle.net.specs.Net.{StandardLaws}
use Rattle.net.proofs.VisitIndex.{of-lies}
use Rattle.net.proofs.Run.{hits-lies}
use Rattle.net.proofs.Theorem.{theorems}

-- ---- any test that one number of each block of 16 passes, and no number together with the 49th after it

module _ (test : ℕ → Bool) (each : OneInEach test 16) (apart : (i : ℕ) → test i ≡ true → test (i + 49) ≡ true → ⊥) where
  bounds : (s n : ℕ) → 1 ≤ n → CountBounds s n 16 (count test (range s n))
  bounds = count_bounds test 16 each

  not_both : (i : ℕ) (b c : Bool) → test i ≡ b → test (i + 49) ≡ c → indicator b + indicator c ≤ 1
  unfolding indicator
  not_both i true true p q = absurd (apart i p q)
  not_both i true false p q = omega arith
  not_both i false true p q = omega arith
  not_both i false false p q = omega arith

  one : (i : ℕ) → count test (range i 1) ≡ indicator (test i)
  unfolding count range
  one i = omega arith

  at-most_four : (s : ℕ) → count test (range s 50) ≤ 4
  unfolding ceiling
  at-most_four s = go (lt_or_ge (s % 16) 15)
    where
      go : (s % 16 < 15) ⊎ (15 ≤ s % 16) → count test (range s 50) ≤ 4
      go (inl l) = let b = (bounds s 50 (omega arith)).touched in omega arith
      go (inr l) =
          let inner = (bounds (s + 1) 48 (omega arith)).touched in
          let e : s + 1 + 48 ≡ s + 49 = omega arith in
          omega (
            arith,
            count_add test s 1 49,
            count_add test (s + 1) 48 1,
            ap (λ (x : ℕ). count test (range x 1)) e,
            one s,
            one (s + 49),
            not_both s (test s) (test (s + 49)) refl refl,
          )

-- ---- the standard matrices, with a column for each of n digits of an index: the indexes of one of 4 columns are all odd or all even

parity : (i j : ℕ) → reversed 2 32 i / 2 ^ 30 ≡ reversed 2 32 j / 2 ^ 30 → i % 2 ≡ j % 2
parity i j e =
    let p = digit-reversed one_lt_two 32 i 31 (omega arith) in
    let q = digit-reversed one_lt_two 32 j 31 (omega arith) in
    omega arith

module _ (n : ℕ) (long : 32 ≤ n) (F : Scrambling) (lawful : Lawful 2 32 F) where
  abbrev S : Sequence
  S = digital (standard 2 32 n) F

  laws : StandardLaws 2 32 n
  laws = theorems.standard_laws one_lt_two 32 n long

  one_parity : (i j : ℕ) → column S 2 i ≡ column S 2 j → i % 2 ≡ j % 2
  one_parity i j e =
      let fits = theorems.plain_fits laws.valid in
      let same = (lawful.x.prefix_iff 2 _ _ (omega arith) (fits.x i) (fits.x j)).1 e in
      parity i j (ap (λ (w : ℕ). w / 2 ^ 30) (sym (laws.reversal i)) ∙ same ∙ ap (λ (w : ℕ). w / 2 ^ 30) (laws.reversal j))

  pub never_five : (c r start : ℕ) → c < 2 ^ 2 → r < 2 ^ 2 → hits S 4 2 c r (visits S start 50) ≤ 4
  never_five c r start hc hr =
      subst (λ (many : ℕ). many ≤ 4) (sym (hits-lies S 4 2 c r start 50)) (at-most_four (lies S 4 2 c r) each apart start)
    where
      each : OneInEach (lies S 4 2 c r) 16
      each k =
          sym (hits-lies S 4 2 c r (k * 16) 16)
          ∙ (theorems.net laws.valid two 32 (omega arith) laws.passes).one_hit F lawful 4 2 k c r (omega arith) (omega arith) hc hr

      apart : (i : ℕ) → lies S 4 2 c r i ≡ true → lies S 4 2 c r (i + 49) ≡ true → ⊥
      apart i p q =
          let (e, row-e) = of-lies S 4 2 c r i p in
          let (f, row-f) = of-lies S 4 2 c r (i + 49) q in
          let same = one_parity i (i + 49) (e ∙ sym f) in
          omega arith
