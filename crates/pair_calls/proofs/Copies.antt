-- Two halves put one after the other.
-- Assumes nothing.
use mathlib.Core.Path.{◌≡◌, sym, ap, ap₂, ◌∙◌}
use mathlib.Core.List.{List, ◌++◌, append-nil}
use Prim.Native.Nat.{ℕ, ◌-◌}
use native.Mathlib.Nat.{le_of_eq}
use borrow.Rule.Slice.PartMut.{put_mid}
use lib.ListN.{length, take, drop, length-drop, drop_of_length-le}
use lib.Seq.{take-append_seam}

-- the second half behind the first
pub halves : (n : ℕ) (x y rest : List ℕ) → length x ≡ n → put_mid n (length (x ++ rest) - n) (x ++ rest) y ≡ x ++ y
halves n x y rest e =
    ap₂ (λ (l r : List ℕ). l ++ (y ++ r)) (ap (λ (k : ℕ). take k (x ++ rest)) (sym e) ∙ take-append_seam x rest)
    (drop_of_length-le (drop n (x ++ rest)) (le_of_eq (length-drop n (x ++ rest))))
    ∙ ap (λ (l : List ℕ). x ++ l) (append-nil y)
