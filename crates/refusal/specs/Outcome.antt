-- What a call comes to, and refusals as an ordered list of tests.
use Rattle.std.specs.Prelude.{Bool, true, false, List, [], ◌∷◌, ℕ}

-- a value, or a refusal by its number in 01's table, with the values that it gives
pub data Outcome (A : Type 0) : Type 0 where
  accepted : A → Outcome A
  refused : (number : ℕ) (values : List ℕ) → Outcome A

-- 3 gives the shape (m, a) and its j, the others give nothing
abbrev pub not_net : {A : Type 0} → ℕ → ℕ → ℕ → Outcome A
not_net m a j = refused 3 (m ∷ a ∷ j ∷ [])

-- a test of the arguments, and the number of the refusal where it holds
pub record Test : Type 0 where
  pub number : ℕ
  pub holds : Bool

-- the refusal of the first test that holds, or else what comes after the tests
unfoldable pub first : {A : Type 0} → List Test → Outcome A → Outcome A
first [] after = after
first (t ∷ ts) after = elim t.holds [ true ↦ refused t.number [] | false ↦ first ts after ]

-- one thing where the call is accepted, another where it is refused
unfoldable pub granted : {A B : Type 0} → Outcome A → B → B → B
granted (accepted a) one other = one
granted (refused n vs) one other = other

-- what is left in memory that is lent for a part of an accepted result: that part, or, of a refused call, the old content
abbrev pub part_left : {A B : Type 0} → Outcome A → (A → B) → B → B
part_left (accepted a) part old = part a
part_left (refused n vs) part old = old

-- an accepted value turned into another; a refusal stands
abbrev pub through : {A B : Type 0} → (A → B) → Outcome A → Outcome B
through f (accepted a) = accepted (f a)
through f (refused n vs) = refused n vs

-- what comes after a call that is accepted; a refusal stands
unfoldable pub then : {A B : Type 0} → Outcome A → Outcome B → Outcome B
then (accepted a) after = after
then (refused n vs) after = refused n vs
