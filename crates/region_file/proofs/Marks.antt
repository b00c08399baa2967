-- A mark for each record, set where a link has named it: the marked records as a function, and the number of those that are free.
use mathlib.Core.Path.{◌≡◌, refl, ap, ◌∙◌}
use mathlib.Core.Bool.{Bool, true, false, ◌||◌}
use mathlib.Core.List.{List, [], ◌∷◌}
use Prim.Native.Nat.{ℕ, zero, suc, ◌<◌}
use native.Mathlib.Nat.{not-suc-le-zero, le_of_suc-le-suc}
use native.Mathlib.Omega.{arith}
use borrow.Author.Tests.{eqb-true, eqb-false}
use lib.Dec.{eqb}
use lib.ListN.{length, get_or, set, replicate}
use lib.Seq.{get_or-set_same, get_or-set_other}
use Rattle.region_file.specs.Records.{most_records}
use Rattle.region_file.specs.Judge.{nowhere, also}

-- record k is marked; past the end of the marks none is
abbrev pub marked : List Bool → ℕ → Bool
marked marks k = get_or marks k false

-- the number of records that are not
unfoldable pub free : List Bool → ℕ
free [] = zero
free (false ∷ ms) = suc (free ms)
free (true ∷ ms) = free ms

pub free_fresh : (n : ℕ) → free (replicate n false) ≡ n
unfolding free
free_fresh zero = refl
free_fresh (suc n) = ap suc (free_fresh n)

pub fresh_at : (n k : ℕ) → ◌≡◌ {A = Bool} (get_or (replicate n false) k false) false
fresh_at zero k = refl
fresh_at (suc n) zero = refl
fresh_at (suc n) (suc k) = fresh_at n k

pub marked_fresh : (n : ℕ) → marked (replicate n false) ≡ nowhere
marked_fresh n i k = fresh_at n k i

pub free-set : (ms : List Bool) (k : ℕ) → k < length ms → get_or ms k false ≡ false → free ms ≡ suc (free (set ms k true))
unfolding free
free-set [] k h e = absurd (not-suc-le-zero h)
free-set (false ∷ ms) zero h e = refl
free-set (true ∷ ms) zero h e = cc
free-set (false ∷ ms) (suc k) h e = ap suc (free-set ms k (le_of_suc-le-suc h) e)
free-set (true ∷ ms) (suc k) h e = free-set ms k (le_of_suc-le-suc h) e

pub free-some : (ms : List Bool) → length ms ≡ most_records → get_or ms 0 false ≡ false → 0 < free ms
free-some ms l e = omega (arith, free-set ms 0 (omega arith) e)

mark_at : (ms : List Bool) (n k : ℕ) → n < length ms → marked (set ms n true) k ≡ also n (marked ms) k
mark_at ms n k h = go (eqb k n) refl
  where
    go : (b : Bool) → eqb k n ≡ b → get_or (set ms n true) k false ≡ (b || get_or ms k false)
    go true e = ap (λ (j : ℕ). get_or (set ms n true) j false) (eqb-true k n e) ∙ get_or-set_same ms n true false h
    go false e = get_or-set_other ms n k true false (eqb-false k n e)

pub marked-set : (ms : List Bool) (n : ℕ) → n < length ms → marked (set ms n true) ≡ also n (marked ms)
marked-set ms n h i k = mark_at ms n k h i
