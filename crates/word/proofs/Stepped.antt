-- A list whose first element is f of 0, and whose others follow from the ones before them as f's values do. Assumes nothing.
use Rattle.std.proofs.Common.{◌≡◌, ℕ, zero, suc, ◌+◌, ◌<◌, List, map, length, get_or, sym, ap, ◌∙◌, zero-add, add-one, arith}
use Rattle.std.proofs.lemmas.List.{ext_get_or}
use Rattle.ranges.specs.Range.{range}
use Rattle.ranges.proofs.Range.{length-each, getD_each}

pub stepped : (f : ℕ → ℕ) (l : List ℕ) (n : ℕ) → length l ≡ n → get_or l 0 0 ≡ f 0
    → ((c : ℕ) → c + 1 < n → get_or l c 0 ≡ f c → get_or l (c + 1) 0 ≡ f (suc c)) → l ≡ map f (range 0 n)
stepped f l n many first next =
    ext_get_or 0 l (map f (range 0 n)) (many ∙ sym (length-each f 0 n)) (λ i h. let within : i < n = omega arith in
    go i within ∙ ap f (sym (zero-add i)) ∙ sym (getD_each f 0 n i 0 within))
  where
    go : (i : ℕ) → i < n → get_or l i 0 ≡ f i
    go zero h = first
    go (suc i) h = ap (λ (k : ℕ). get_or l k 0) (sym (add-one i)) ∙ next i (omega arith) (go i (omega arith))
