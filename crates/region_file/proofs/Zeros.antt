-- `zeros` by the bytes one by one, as the code looks at them.
use Rattle.std.specs.Prelude.{IsTrue, EachIndex, slice_range, slice_index, ◌↔◌}
use Rattle.std.proofs.lemmas.List.{get_or-drop, get_or-take}
use mathlib.Core.Path.{◌≡◌, refl, sym, ap, ◌∙◌}
use mathlib.Core.Bool.{Bool, true, false, true≢false}
use mathlib.Core.List.{List}
use Prim.Native.Nat.{ℕ, zero, suc, ◌+◌, ◌-◌, ◌≤◌, ◌<◌}
use native.Mathlib.Nat.{lt_irrefl, not-suc-le-zero}
use native.Mathlib.Omega.{arith}
use borrow.Author.Tests.{eq-eqb, ne_eqb, eqb-true}
use lib.Dec.{eqb}
use lib.ListN.{length, get_or, take, drop, length-take, length-drop}
use Rattle.ranges.proofs.Tests.{both_hold}
use Rattle.region_file.specs.Records.{zeros}

-- one byte after the other: none is left, the first is zero, and it is not
pub zeros-none : (file : List ℕ) (at n : ℕ) → n ≤ 0 → zeros file at n ≡ true
unfolding zeros
zeros-none file at zero h = refl
zeros-none file at (suc n) h = absurd (omega arith)

pub zeros-more : (file : List ℕ) (at n : ℕ) → 0 < n → get_or file at 0 ≡ 0 → zeros file (at + 1) (n - 1) ≡ zeros file at n
unfolding zeros
zeros-more file at zero h e = absurd (lt_irrefl 0 h)
zeros-more file at (suc n) h e = let less : n ≡ suc n - 1 = omega arith in ap (zeros file (at + 1)) (sym less) ∙ simp (eq-eqb (get_or file at 0) 0 e)

pub zeros_not : (file : List ℕ) (at n : ℕ) → 0 < n → (get_or file at 0 ≡ 0 → ⊥) → zeros file at n ≡ false
unfolding zeros
zeros_not file at zero h e = absurd (lt_irrefl 0 h)
zeros_not file at (suc n) h e = simp (ne_eqb (get_or file at 0) 0 e)

-- each of them is zero
pub zero_byte : (file : List ℕ) (n at k : ℕ) → zeros file at n ≡ true → k < n → get_or file (at + k) 0 ≡ 0
unfolding zeros
zero_byte file zero at k h less = absurd (not-suc-le-zero less)
zero_byte file (suc n) at zero h less =
    let here : at + zero ≡ at = omega arith in
    ap (λ (j : ℕ). get_or file j 0) here ∙ eqb-true (get_or file at 0) 0 (both_hold (eqb (get_or file at 0) 0) (zeros file (at + 1) n) h).0
zero_byte file (suc n) at (suc k) h less =
    let there : at + suc k ≡ at + 1 + k = omega arith in
    ap (λ (j : ℕ). get_or file j 0) there
    ∙ zero_byte file n (at + 1) k (both_hold (eqb (get_or file at 0) 0) (zeros file (at + 1) n) h).1 (omega arith)

-- and that is all
all_zero : (file : List ℕ) (n at : ℕ) → ((k : ℕ) → k < n → get_or file (at + k) 0 ≡ 0) → zeros file at n ≡ true
unfolding zeros
all_zero file zero at h = refl
all_zero file (suc n) at h =
    let here : at + 0 ≡ at = omega arith in
    let first : get_or file at 0 ≡ 0 = ap (λ (j : ℕ). get_or file j 0) (sym here) ∙ h 0 (omega arith) in
    let rest = all_zero file n (at + 1) (λ k less.
    let there : at + 1 + k ≡ at + (k + 1) = omega arith in
    ap (λ (j : ℕ). get_or file j 0) there ∙ h (k + 1) (omega arith)) in
    simp (eq-eqb (get_or file at 0) 0 first) rest

byte_of : (file : List ℕ) (at n k : ℕ) → k < n → slice_index (slice_range file at (at + n)) k ≡ get_or file (at + k) 0
byte_of file at n k less =
    let wide : at + n - at ≡ n = omega arith in
    ap (λ (j : ℕ). get_or (take j (drop at file)) k 0) wide ∙ get_or-take n (drop at file) k 0 less ∙ get_or-drop at file k 0

-- what a test of each byte of a slice comes to
pub each_zero : (file : List ℕ) (at n : ℕ) (b : Bool) → at + n ≤ length file
    → IsTrue b ↔ EachIndex (slice_range file at (at + n)) (λ k. slice_index (slice_range file at (at + n)) k ≡ 0)
    → b ≡ zeros file at n
each_zero file at n b room is = go b (zeros file at n) refl refl
  where
    long : length (slice_range file at (at + n)) ≡ n
    long = simp (length-take, length-drop) (omega arith)

    go : (c d : Bool) → b ≡ c → zeros file at n ≡ d → b ≡ zeros file at n
    go true d e z = e ∙ sym (all_zero file n at (λ k less. sym (byte_of file at n k less) ∙ is.0 e k (omega (arith, long))))
    go false true e z = absurd (true≢false (sym (is.1 (λ k less.
        let near : k < n = omega (arith, long) in byte_of file at n k near ∙ zero_byte file n at k z near)) ∙ e))
    go false false e z = e ∙ sym z
