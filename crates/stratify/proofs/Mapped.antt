-- An error that `map_err` makes of the dependent columns of a shape. Assumes nothing.
use Rattle.std.specs.Prelude.{Result, Ok, Err, MatchResult, IsErrAnd}
use mathlib.Core.Path.{◌≡◌, refl, sym, ◌∙◌}
use borrow.Author.Rules.{rules}
use Rattle.refusal.specs.declared.Refusal.{Refusal}
use Rattle.elimination.specs.declared.kernel.Dependent.{Dependent}

-- the columns that the refusal was made of
pub made_of : {A : Type 0} (r : Result A Dependent) (s : Result A Refusal) (F : Dependent → Refusal → Type 0)
    → MatchResult r (λ x. s ≡ Ok x) (λ d. IsErrAnd s (F d)) → (why : Refusal) → s ≡ Err why → (d : Dependent) × (r ≡ Err d) × F d why
made_of (Ok x) s F h why e = absurd (not_both (sym h ∙ e))
  where
    not_both : {A E : Type 0} {x : A} {y : E} → Ok x ≡ Err y → ⊥
    not_both q = cc
made_of (Err d) s F h why e = (d, refl, search (rules, h, e))
