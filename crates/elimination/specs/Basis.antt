-- What the functions of the elimination promise one another, over arrays of words beside their indexes, and the notions by which the
-- proofs relate them to the model. Other crates cite none of this.
use Rattle.std.specs.Prelude.{◌≡◌, List, [], ◌∷◌, ℕ, zero, suc, ◌*◌, ◌/◌, ◌%◌, ◌^◌, ◌≤◌, ◌<◌, length, get_or}
use Rattle.std.specs.Int.Bits.{bit_xor}
use Rattle.std.specs.Int.Count.{count_trailing_zeros}
use Rattle.digits.specs.Digits.{plus, minus}
use Rattle.net.specs.Elimination.{Additive, BasisEntry, solve}
use Rattle.word.specs.Index.{index_bits}

-- the first n words and indexes as entries of a basis, the newest first; the pivot of a word is its lowest set bit
unfoldable pub entries : List ℕ → List ℕ → ℕ → List BasisEntry
entries words indexes zero = []
entries words indexes (suc n) =
    record { index = get_or indexes n 0; pivot = count_trailing_zeros 32 (get_or words n 0); inverse = 1 } ∷ entries words indexes n

-- the first n words are the images of the indexes
abbrev pub Images : (ℕ → ℕ) → List ℕ → List ℕ → ℕ → Type 0
Images L words indexes n = (t : ℕ) → t < n → get_or words t 0 ≡ L (get_or indexes t 0)

-- The word v with the index k, cleared by the first n entries, has become `word` with `index`: the index has moved by the solution for v, and
-- the word is what that solution leaves of v.
pub record Swept (words indexes : List ℕ) (n v k word index : ℕ) (L : ℕ → ℕ) : Type 0 where
  pub moved : index ≡ plus 2 k (solve 2 L (entries words indexes n) v)
  pub rest : word ≡ minus 2 v (L (solve 2 L (entries words indexes n) v))

-- this, for every additive L of which the first n words are images
abbrev pub Sweeps : List ℕ → List ℕ → ℕ → ℕ → ℕ → ℕ → ℕ → Type 0
Sweeps words indexes n v k word index = (L : ℕ → ℕ) → Additive 2 L → Images L words indexes n → Swept words indexes n v k word index L

-- ---- the arrays of the code

-- word t of the list has bit t alone
pub record Units (words : List ℕ) : Type 0 where
  pub long : length words ≡ index_bits
  pub each : (t : ℕ) → t < index_bits → get_or words t 0 ≡ 2 ^ t

-- y with x added if the word w has the lowest set bit of the word `by`; with x = `by` and y = w this clears that bit of w
abbrev pub added : (by w x y : ℕ) → ℕ
added by w x y = bit_xor y (x * (w / 2 ^ count_trailing_zeros 32 by % 2))

-- the words from `from` up to `to` are cleared by the word `by`, and its index `along` is added to their indexes
pub record Clears (by along from to : ℕ) (words indexes words' indexes' : List ℕ) : Type 0 where
  pub word : (d : ℕ) → from ≤ d → d < to → get_or words' d 0 ≡ added by (get_or words d 0) by (get_or words d 0)
  pub index : (d : ℕ) → from ≤ d → d < to → get_or indexes' d 0 ≡ added by (get_or words d 0) along (get_or indexes d 0)
