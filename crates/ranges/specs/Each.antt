-- What holds of each element of a list.
use Rattle.std.specs.Prelude.{List, [], ◌∷◌}

-- each element has the property P
abbrev pub Each : {A : Type 0} → (A → Type 0) → List A → Type 0
Each P [] = Unit
Each P (a ∷ l) = P a × Each P l
