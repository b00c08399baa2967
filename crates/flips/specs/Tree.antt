-- The tree of flip bits as the code goes through it: the node of the t leading bits p of a word is 2 ^ t - 1 + p, and its flip bit is for bit t.
use Rattle.std.specs.Prelude.{◌≡◌, List, ℕ, ◌+◌, ◌^◌, ◌≤◌, ◌<◌, get_or}
use Rattle.digits.specs.Digits.{plus}
use Rattle.net.specs.Sequence.{top}
use Rattle.net.specs.Scrambling.{nested, adding}
use Rattle.flips.specs.Flips.{flip_at}

-- what is added to the t leading bits of a word, at their node, for the first n nodes
abbrev pub OnTheWay : (flips : List ℕ) → ℕ → List ℕ → Type 0
OnTheWay flips n tree = (k : ℕ) → k < n → (get_or tree k 0 ≤ k) × ((t w : ℕ) → t ≤ 8 → w < 2 ^ 32 → k + 1 ≡ 2 ^ t + top 2 32 t w
    → (get_or tree k 0 < 2 ^ t) × (nested 2 32 (adding 2 (flip_at flips)) t w ≡ plus 2 (top 2 32 t w) (get_or tree k 0)))
