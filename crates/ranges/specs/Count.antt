-- How many elements of a list pass a test.
use Rattle.std.specs.Prelude.{Bool, true, false, List, [], ◌∷◌, ℕ, ◌+◌}

-- 1 for a test that is passed, and 0 for another
unfoldable pub indicator : Bool → ℕ
indicator true = 1
indicator false = 0

-- the number of elements that pass
unfoldable pub count : {A : Type 0} → (A → Bool) → List A → ℕ
count test [] = 0
count test (a ∷ l) = indicator (test a) + count test l
