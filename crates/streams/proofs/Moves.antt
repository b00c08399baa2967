-- Calls that move bytes, one after the other, move what the calls moved together.
use Rattle.std.proofs.Common.{◌≡◌, ℕ, ◌+◌, List, Option, take, drop, sym, subst}
use Rattle.std.proofs.Math.Seq.{take-add}
use Rattle.std.specs.Io.KnownBytes.{Appends, Consumes}
use Rattle.std.proofs.KnownBytes.{Appends-trans, Consumes-trans}

-- the first n bytes of a text, and then k more
pub appends_more : (a b c : Option (List ℕ)) (text : List ℕ) (n k : ℕ) → Appends a b (take n text) → Appends b c (take k (drop n text))
    → Appends a c (take (n + k) text)
appends_more a b c text n k so_far more = subst (Appends a c) (sym (take-add n k text)) (Appends-trans a b c _ _ so_far more)

-- the same of a buffer that is read into, whose first n bytes stay
pub consumes_more : (a b c : Option (List ℕ)) (old new : List ℕ) (n k : ℕ) → take n new ≡ take n old → Consumes a b (take n old)
    → Consumes b c (take k (drop n new)) → Consumes a c (take (n + k) new)
consumes_more a b c old new n k kept so_far more =
    let first = subst (Consumes a b) (sym kept) so_far in
    subst (Consumes a c) (sym (take-add n k new)) (Consumes-trans a b c _ _ first more)
