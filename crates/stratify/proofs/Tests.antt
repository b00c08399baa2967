-- The query's bounds by shifts are the definitions' tests, and which of these decides. Assumes nothing.
use mathlib.Core.Path.{◌≡◌, sym, ap, ap₂, ◌∙◌}
use mathlib.Core.Logic.{◌⊎◌, inl, inr}
use mathlib.Core.Bool.{true, false, not, ◌||◌}
use mathlib.Core.List.{List, [], ◌∷◌}
use Prim.Native.Nat.{ℕ, ◌-◌, ◌/◌, ◌^◌, ◌≤◌, ◌<◌}
use native.Mathlib.Nat.{div-eq_of_lt}
use native.Mathlib.Omega.{arith}
use borrow.Author.Tests.{le-leb, lt-leb, le-ltb, lt-ltb, eq-eqb, ne_eqb}
use lib.Dec.{eqb}
use lib.ListN.{drop}
use Rattle.ranges.proofs.Order.{lt_or_ge}
use Rattle.digits.proofs.Digit.{lt_of-div}
use Rattle.digits.proofs.Two.{one_lt_two}
use Rattle.refusal.specs.Outcome.{Outcome, accepted, refused, Test, first}
use Rattle.refusal.proofs.First.{first-none, first_passes, first-refuses, first-append, all_pass}
use Rattle.flips.specs.declared.sets.Flips.{Flips}
use Rattle.flips.specs.Load.{not_flips, unused_set, flips_tests, flips_outcome}
use Rattle.plan.specs.Pair.{unknown_level}
use Rattle.stratify.specs.Answers.{not_a_cell, query_tests}

pub past_limit : (n w : ℕ) → (n / 2 ^ w ≡ 0 → ⊥) → 2 ^ w ≤ n
past_limit n w ne = go (lt_or_ge n (2 ^ w))
  where
    go : (n < 2 ^ w) ⊎ (2 ^ w ≤ n) → 2 ^ w ≤ n
    go (inl h) = absurd (ne (div-eq_of_lt h))
    go (inr h) = h

module _ (m a c r : ℕ) where
  row_past : c < 2 ^ a → 2 ^ (m - a) ≤ r → (not_a_cell 2 m a c r).holds ≡ true
  row_past l h = ap₂ ◌||◌ (lt-leb (2 ^ a) c l) (le-leb (2 ^ (m - a)) r h)

  pub cell_within : c < 2 ^ a → r < 2 ^ (m - a) → (not_a_cell 2 m a c r).holds ≡ false
  cell_within l h = ap₂ ◌||◌ (lt-leb (2 ^ a) c l) (lt-leb (2 ^ (m - a)) r h)

-- where the column lies inside, the row decides
pub row-decides : (m a c r : ℕ) → c < 2 ^ a → not (eqb (r / 2 ^ (m - a)) 0) ≡ (not_a_cell 2 m a c r).holds
row-decides m a c r l = go (lt_or_ge r (2 ^ (m - a)))
  where
    go : (r < 2 ^ (m - a)) ⊎ (2 ^ (m - a) ≤ r) → not (eqb (r / 2 ^ (m - a)) 0) ≡ (not_a_cell 2 m a c r).holds
    go (inl h) = ap not (eq-eqb (r / 2 ^ (m - a)) 0 (div-eq_of_lt h)) ∙ sym (cell_within m a c r l h)
    go (inr h) =
        ap not (ne_eqb (r / 2 ^ (m - a)) 0 (λ e. let g = lt_of-div one_lt_two (m - a) r e in omega arith)) ∙ sym (row_past m a c r l h)

-- the tests of the flips among others
module _ (f : Flips) where
  pub past_flips : {A : Type 0} (after : Outcome A) (rest : List Test) → flips_outcome f ≡ accepted tt
      → first (not_flips f ∷ unused_set f ∷ rest) after ≡ first rest after
  past_flips after rest fine =
      let all = (all_pass (accepted tt) (flips_tests f) fine).0 in
      first_passes after 17 _ all.0 ∙ first_passes after 18 rest all.1.0

  pub flips_fine : (not_flips f).holds ≡ false → (unused_set f).holds ≡ false → flips_outcome f ≡ accepted tt
  flips_fine e g = first_passes (accepted tt) 17 _ e ∙ first_passes (accepted tt) 18 [] g ∙ first-none (accepted tt)

  pub flips_pass : {A : Type 0} (after : Outcome A) {b : A} → accepted b ≡ first (flips_tests f) after → flips_outcome f ≡ accepted tt
  flips_pass after e = let all = (all_pass after (flips_tests f) (sym e)).0 in flips_fine all.0 all.1.0

-- ---- the tests of a query one after the other: what each of them refuses, and what passes all

module _ {A : Type 0} (after : Outcome A) (f : Flips) (level m a k c r : ℕ) where
  abbrev tests : List Test
  tests = query_tests f level m a k c r

  pub level_refuses : (unknown_level level).holds ≡ true → refused 2 [] ≡ first tests after
  level_refuses e = sym (first-refuses after 2 _ e)

  module _ (known : (unknown_level level).holds ≡ false) where
    past_level : first tests after ≡ first (drop 1 tests) after
    past_level = first_passes after 2 _ known

    pub flips_refuse : {o : Outcome A} → o ≡ first (flips_tests f) (first (drop 3 tests) after) → o ≡ first tests after
    flips_refuse e = e ∙ sym (past_level ∙ first-append (flips_tests f) (drop 3 tests) after)

    module _ (fine : flips_outcome f ≡ accepted tt) where
      past_loading : first tests after ≡ first (drop 3 tests) after
      past_loading = past_level ∙ past_flips f after _ fine

      pub size_refuses : level < m → refused 4 [] ≡ first tests after
      size_refuses h = sym (past_loading ∙ first-refuses after 4 _ (lt-ltb level m h))

      module _ (size : m ≤ level) where
        past_size : first tests after ≡ first (drop 4 tests) after
        past_size = past_loading ∙ first_passes after 4 _ (le-ltb level m size)

        pub shape-refuses : m < a → refused 5 [] ≡ first tests after
        shape-refuses h = sym (past_size ∙ first-refuses after 5 _ (lt-ltb m a h))

        module _ (wide : a ≤ m) where
          past_shape : first tests after ≡ first (drop 5 tests) after
          past_shape = past_size ∙ first_passes after 5 _ (le-ltb m a wide)

          -- 6 comes before 7, whatever the block
          pub cell_first : (not_a_cell 2 m a c r).holds ≡ true → refused 6 [] ≡ first tests after
          cell_first e = sym (past_shape ∙ first-refuses after 6 _ e)

          module _ (inside : (not_a_cell 2 m a c r).holds ≡ false) where
            past_cell : first tests after ≡ first (drop 6 tests) after
            past_cell = past_shape ∙ first_passes after 6 _ inside

            pub block_refuses : (k / 2 ^ (32 - m) ≡ 0 → ⊥) → refused 7 [] ≡ first tests after
            block_refuses ne = sym (past_cell ∙ first-refuses after 7 [] (le-leb (2 ^ (32 - m)) k (past_limit k (32 - m) ne)))

            pub all-pass : k / 2 ^ (32 - m) ≡ 0 → after ≡ first tests after
            all-pass e =
                sym (past_cell ∙ first_passes after 7 [] (lt-leb (2 ^ (32 - m)) k (lt_of-div one_lt_two (32 - m) k e)) ∙ first-none after)
