-- Pieces joined are the text: by induction on the calls.
-- Assumes nothing.
use mathlib.Core.Path.{◌≡◌, refl, sym, ap, ◌∙◌}
use mathlib.Core.List.{List, [], ◌++◌, append_assoc, append-nil}
use Prim.Native.Nat.{ℕ, ◌+◌, ◌≤◌}
use native.Mathlib.Omega.{arith}
use Rattle.text.specs.Pieces.{join, Piece, Pieces, none, more}

module _ {C : Type 0} (to_come : C → List ℕ) (w : ℕ) where
  pub so_far : (c e : C) (ps : List (List ℕ)) → Pieces to_come w c ps e → join ps ++ to_come e ≡ to_come c
  so_far c e ps (none _) = refl
  so_far c e ps (more _ d _ p qs room one others) =
      append_assoc p (join qs) (to_come e) ∙ ap (λ (s : List ℕ). p ++ s) (so_far d e qs others) ∙ one.joins

  pub whole : (c d e : C) (ps : List (List ℕ)) (room : ℕ) → Pieces to_come w c ps d → Piece to_come w d e [] room → w ≤ room → join ps ≡ to_come c
  whole c d e ps room run last h =
      let fits : 0 + w ≤ room = omega arith in
      sym (append-nil (join ps)) ∙ ap (λ (s : List ℕ). join ps ++ s) (sym (sym last.joins ∙ last.stops fits)) ∙ so_far c d ps run
