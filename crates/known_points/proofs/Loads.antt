-- Matrices are loaded of 64 words. Assumes nothing.
use Rattle.std.specs.Prelude.{false, not, List, [], ℕ, ◌+◌, eqb, length, Result, Ok, Err, IsOk}
use mathlib.Core.Path.{◌≡◌, refl, sym, ap, ◌∙◌}
use Rattle.refusal.specs.Refusal.{of_result}
use Rattle.refusal.specs.declared.Refusal.{Refusal}
use Rattle.refusal.proofs.First.{first-none, first_passes, accepted-refused}
use Rattle.word.specs.Index.{index_bits}
use Rattle.plan.specs.Pair.{plan_load_outcome}
use Rattle.plan.specs.declared.pair.Plan.{Plan}

pub pair_loads : (words : List ℕ) → length words ≡ 64 → (r : Result Plan Refusal) → of_result (λ P. P) r ≡ plan_load_outcome words → IsOk r
pair_loads words n (Ok P) is = refl
pair_loads words n (Err why) is = absurd (accepted-refused (sym (first_passes _ 1 [] passed ∙ first-none _) ∙ sym is))
  where
    passed : not (eqb (length words) (index_bits + index_bits)) ≡ false
    passed = ap (λ k. not (eqb k (index_bits + index_bits))) n
