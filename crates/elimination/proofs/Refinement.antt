-- One turn of the code's elimination is one step of the model's. Assumes nothing.
use mathlib.Core.Path.{◌≡◌, refl, sym, ap, ap₂, ◌∙◌, subst}
use mathlib.Core.Logic.{◌≢◌, ◌⊎◌, inl, inr}
use mathlib.Core.List.{List, [], ◌∷◌}
use Prim.Native.Nat.{ℕ, zero, suc, ◌+◌, ◌-◌, ◌^◌, ◌≤◌, ◌<◌}
use native.Mathlib.Nat.{le_refl}
use native.Mathlib.Numerals.{add-one}
use native.Mathlib.Omega.{arith}
use lib.Count.{count_trailing_zeros}
use lib.ListN.{length, get_or, set, replicate, length-set}
use lib.Seq.{get_or-set_same, get_or-set_other}
use Rattle.ranges.proofs.Order.{lt_or_ge}
use Rattle.digits.specs.Digits.{plus, minus}
use Rattle.net.specs.Elimination.{Additive, Choice, BasisEntry, reduce, solve, new_entry, in_kernel, eliminate}
use Rattle.net.proofs.Elimination.{eliminate-stops, eliminate_goes_on}
use Rattle.net.proofs.Two.{trailing_zeros}
use Rattle.elimination.specs.Basis.{entries, Images, Sweeps, added, Clears}
use Rattle.elimination.proofs.Reduction.{sweep_none, sweep_more, reduced, imaged}

-- the lowest bit of a word
abbrev pub choice : Choice 2 32
choice = trailing_zeros

-- ---- a new entry leaves the old ones alone

entries-set : (words indexes : List ℕ) (c word index n : ℕ) → n ≤ c → entries (set words c word) (set indexes c index) n ≡ entries words indexes n
unfolding entries
entries-set words indexes c word index zero h = refl
entries-set words indexes c word index (suc n) h =
    let other : n ≢ c = omega arith in
    ap₂ (λ (f : BasisEntry) (fs : List BasisEntry). f ∷ fs)
    (ap₂ (λ (i w : ℕ). record { index = i; pivot = count_trailing_zeros 32 w; inverse = 1 })
    (get_or-set_other indexes c n index 0 other) (get_or-set_other words c n word 0 other))
    (entries-set words indexes c word index n (omega arith))

-- nor what was swept by them
sweeps_set : (words indexes : List ℕ) (c word index v k x y : ℕ) → Sweeps words indexes c v k x y
    → Sweeps (set words c word) (set indexes c index) c v k x y
sweeps_set words indexes c word index v k x y old L A images =
    let same = sym (entries-set words indexes c word index c (le_refl c)) in
    let s = old L A before in
    record {
      moved = s.moved ∙ ap (λ (fs : List BasisEntry). plus 2 k (solve 2 L fs v)) same;
      rest = s.rest ∙ ap (λ (fs : List BasisEntry). minus 2 v (L (solve 2 L fs v))) same;
    }
  where
    before : Images L words indexes c
    before t h =
        let other : t ≢ c = omega arith in
        sym (get_or-set_other words c t word 0 other) ∙ images t h ∙ ap L (get_or-set_other indexes c t index 0 other)

-- ---- the loop

-- after c columns: the rest of the model's elimination is the whole
pub record Going (L : ℕ → ℕ) (m : ℕ) (words indexes : List ℕ) (c : ℕ) : Type 0 where
  pub long_words : length words ≡ 32
  pub long_indexes : length indexes ≡ 32
  pub images : Images L words indexes c
  pub left : eliminate 2 L choice m 0 [] ≡ eliminate 2 L choice (m - c) c (entries words indexes c)

pub going_none : (L : ℕ → ℕ) (m : ℕ) (words indexes : List ℕ) → length words ≡ 32 → length indexes ≡ 32 → Going L m words indexes 0
unfolding entries
going_none L m words indexes h k = record {
  long_words = h;
  long_indexes = k;
  images = λ t l. absurd (omega arith);
  left = ap (λ (n : ℕ). eliminate 2 L choice n 0 []) (omega arith);
}

module _ {L : ℕ → ℕ} (A : Additive 2 L) {m : ℕ} {words indexes : List ℕ} {c : ℕ} (going : Going L m words indexes c) (inside : c < m)
    (word index : ℕ) (swept : Sweeps words indexes c (L (2 ^ c)) (2 ^ c) word index) where
  fs : List BasisEntry
  fs = entries words indexes c

  e : ℕ
  e = reduce 2 L fs (2 ^ c)

  index_is : index ≡ e
  unfolding e fs
  index_is = reduced A words indexes c (2 ^ c) word index going.images swept

  word_is : word ≡ L index
  word_is = imaged A words indexes c (2 ^ c) word index going.images swept

  image_is : L e ≡ word
  unfolding e fs
  image_is = ap L (sym index_is) ∙ sym word_is

  -- what is left of the model is at least one step
  left_step : eliminate 2 L choice m 0 [] ≡ eliminate 2 L choice (suc (m - suc c)) c fs
  unfolding fs
  left_step = let k : m - c ≡ suc (m - suc c) = omega arith in going.left ∙ ap (λ (n : ℕ). eliminate 2 L choice n c fs) k

  pub going_kernel : word ≡ 0 → eliminate 2 L choice m 0 [] ≡ in_kernel index
  unfolding e fs
  going_kernel z = left_step ∙ eliminate-stops L choice c fs (m - suc c) (image_is ∙ z) ∙ ap in_kernel (sym index_is)

  pub going_more : word ≢ 0 → c < 32 → Going L m (set words c word) (set indexes c index) (c + 1)
  unfolding entries e fs
  going_more ne low = rw (add-one c) (record {
    long_words = length-set words c word ∙ going.long_words;
    long_indexes = length-set indexes c index ∙ going.long_indexes;
    images = images';
    left = left_step ∙ eliminate_goes_on L choice c fs (m - suc c) (λ z. ne (sym image_is ∙ z))
        ∙ ap (eliminate 2 L choice (m - suc c) (suc c)) (sym stored);
  })
    where
      here_word : get_or (set words c word) c 0 ≡ word
      here_word = get_or-set_same words c word 0 (omega (arith, going.long_words))

      here_index : get_or (set indexes c index) c 0 ≡ index
      here_index = get_or-set_same indexes c index 0 (omega (arith, going.long_indexes))

      images' : Images L (set words c word) (set indexes c index) (suc c)
      images' t l = go (lt_or_ge t c)
        where
          go : (t < c) ⊎ (c ≤ t) → get_or (set words c word) t 0 ≡ L (get_or (set indexes c index) t 0)
          go (inl h) =
              let other : t ≢ c = omega arith in
              get_or-set_other words c t word 0 other ∙ going.images t h ∙ ap L (sym (get_or-set_other indexes c t index 0 other))
          go (inr h) =
              let at : t ≡ c = omega arith in
              rw at (here_word ∙ word_is ∙ ap L (sym here_index))

      stored : entries (set words c word) (set indexes c index) (suc c) ≡ new_entry 2 L choice fs c ∷ fs
      stored =
          ap₂ (λ (f : BasisEntry) (gs : List BasisEntry). f ∷ gs)
          (ap₂ (λ (i q : ℕ). record { index = i; pivot = q; inverse = 1 }) (here_index ∙ index_is)
          (ap (count_trailing_zeros 32) (here_word ∙ sym image_is)))
          (entries-set words indexes c word index c (le_refl c))

-- ---- the code's arrays: each column to come, and each of n words asked for, is swept by the entries so far

pub record Pending (L : ℕ → ℕ) (m n : ℕ) (asked : ℕ → ℕ) (c : ℕ) (rest moved asked-rest found : List ℕ) : Type 0 where
  pub words : List ℕ
  pub indexes : List ℕ
  pub going : Going L m words indexes c
  pub columns : (d : ℕ) → c ≤ d → d < m → Sweeps words indexes c (L (2 ^ d)) (2 ^ d) (get_or rest d 0) (get_or moved d 0)
  pub asked_for : (t : ℕ) → t < n → Sweeps words indexes c (asked t) 0 (get_or asked-rest t 0) (get_or found t 0)

-- the arrays as the loop begins: the columns beside the unit words, and the words asked for beside 0
pub record Begun (L : ℕ → ℕ) (m n : ℕ) (asked : ℕ → ℕ) (rest moved asked-rest found : List ℕ) : Type 0 where
  pub columns : (d : ℕ) → d < m → (get_or rest d 0 ≡ L (2 ^ d)) × (get_or moved d 0 ≡ 2 ^ d)
  pub asked_for : (t : ℕ) → t < n → (get_or asked-rest t 0 ≡ asked t) × (get_or found t 0 ≡ 0)

pub pending_none : {L : ℕ → ℕ} {m n : ℕ} {asked : ℕ → ℕ} {rest moved asked-rest found : List ℕ}
    → Begun L m n asked rest moved asked-rest found → Pending L m n asked 0 rest moved asked-rest found
pending_none {L} {m} {n} {asked} {rest} {moved} {asked-rest} {found} b = record {
  words = replicate 32 0;
  indexes = replicate 32 0;
  going = going_none L m (replicate 32 0) (replicate 32 0) refl refl;
  columns = λ d low h. start (L (2 ^ d)) (2 ^ d) (get_or rest d 0) (get_or moved d 0) (b.columns d h).0 (b.columns d h).1;
  asked_for = λ t h. start (asked t) 0 (get_or asked-rest t 0) (get_or found t 0) (b.asked_for t h).0 (b.asked_for t h).1;
}
  where
    start : (v k word index : ℕ) → word ≡ v → index ≡ k → Sweeps (replicate 32 0) (replicate 32 0) 0 v k word index
    start v k word index e f = rw e (rw f (sweep_none (replicate 32 0) (replicate 32 0) v k))

module _ {L : ℕ → ℕ} (A : Additive 2 L) {m n : ℕ} {asked : ℕ → ℕ} {c : ℕ} {rest moved asked-rest found : List ℕ}
    (now : Pending L m n asked c rest moved asked-rest found) (inside : c < m) where
  here : Sweeps now.words now.indexes c (L (2 ^ c)) (2 ^ c) (get_or rest c 0) (get_or moved c 0)
  here = now.columns c (le_refl c) inside

  pub pending_kernel : get_or rest c 0 ≡ 0 → eliminate 2 L choice m 0 [] ≡ in_kernel (get_or moved c 0)
  pending_kernel = going_kernel A now.going inside (get_or rest c 0) (get_or moved c 0) here

  -- a word that is cleared is swept by one entry more
  further : (v k x y x' y' : ℕ) → Sweeps now.words now.indexes c v k x y
      → x' ≡ added (get_or rest c 0) x (get_or rest c 0) x → y' ≡ added (get_or rest c 0) x (get_or moved c 0) y → c < 32
      → Sweeps (set now.words c (get_or rest c 0)) (set now.indexes c (get_or moved c 0)) (c + 1) v k x' y'
  further v k x y x' y' old e f low =
      let words = set now.words c (get_or rest c 0) in
      let indexes = set now.indexes c (get_or moved c 0) in
      let w : get_or words c 0 ≡ get_or rest c 0 = get_or-set_same now.words c (get_or rest c 0) 0 (omega (arith, now.going.long_words)) in
      let i : get_or indexes c 0 ≡ get_or moved c 0 = get_or-set_same now.indexes c (get_or moved c 0) 0 (omega (arith, now.going.long_indexes)) in
      rw e (rw f (subst (λ (z : ℕ). Sweeps words indexes (c + 1) v k (added z x z x) (added z x (get_or moved c 0) y)) w
      (subst (λ (z : ℕ). Sweeps words indexes (c + 1) v k (added (get_or words c 0) x (get_or words c 0) x) (added (get_or words c 0) x z y)) i
      (sweep_more words indexes v k c x y (sweeps_set now.words now.indexes c (get_or rest c 0) (get_or moved c 0) v k x y old)))))

  -- a turn of the loop: the columns to come and the words asked for are cleared by the column at hand
  pub pending_more : (rest' moved' asked-rest' found' : List ℕ) (by along : ℕ) → by ≡ get_or rest c 0 → along ≡ get_or moved c 0 → by ≢ 0
      → Clears by along (c + 1) m rest moved rest' moved' → Clears by along 0 n asked-rest found asked-rest' found'
      → c < 32 → Pending L m n asked (c + 1) rest' moved' asked-rest' found'
  pending_more rest' moved' asked-rest' found' by along e f ne clears asked-clears low =
      let columns-cleared = rw f at (rw e at clears) in
      let asked-cleared = rw f at (rw e at asked-clears) in
      record {
        words = set now.words c (get_or rest c 0);
        indexes = set now.indexes c (get_or moved c 0);
        going = going_more A now.going inside (get_or rest c 0) (get_or moved c 0) here (λ z. ne (e ∙ z)) low;
        columns = λ d h l. further (L (2 ^ d)) (2 ^ d) (get_or rest d 0) (get_or moved d 0) (get_or rest' d 0) (get_or moved' d 0)
            (now.columns d (omega arith) l) (columns-cleared.word d (omega arith) l) (columns-cleared.index d (omega arith) l) low;
        asked_for = λ t h. further (asked t) 0 (get_or asked-rest t 0) (get_or found t 0) (get_or asked-rest' t 0) (get_or found' t 0)
            (now.asked_for t h) (asked-cleared.word t (omega arith) h) (asked-cleared.index t (omega arith) h) low;
      }

-- ---- one word asked for, as lists of one

pub begun_one : {L : ℕ → ℕ} {m : ℕ} (asked : ℕ) {rest moved : List ℕ}
    → ((d : ℕ) → d < m → (get_or rest d 0 ≡ L (2 ^ d)) × (get_or moved d 0 ≡ 2 ^ d)) → Begun L m 1 (λ t. asked) rest moved (asked ∷ []) (0 ∷ [])
begun_one asked are = record { columns = are; asked_for = λ t h. only t h }
  where
    only : (t : ℕ) → t < 1 → (get_or (asked ∷ []) t 0 ≡ asked) × (get_or {A = ℕ} (0 ∷ []) t 0 ≡ 0)
    only zero h = (refl, refl)
    only (suc t) h = absurd (omega arith)

pub clears_one : {by along word index word' index' : ℕ} → word' ≡ added by word by word → index' ≡ added by word along index
    → Clears by along 0 1 (word ∷ []) (index ∷ []) (word' ∷ []) (index' ∷ [])
clears_one {by} {along} {word} {index} {word'} {index'} e f = record { word = λ d low h. at-word d h; index = λ d low h. at-index d h }
  where
    at-word : (d : ℕ) → d < 1 → get_or (word' ∷ []) d 0 ≡ added by (get_or (word ∷ []) d 0) by (get_or (word ∷ []) d 0)
    at-word zero h = e
    at-word (suc d) h = absurd (omega arith)

    at-index : (d : ℕ) → d < 1 → get_or (index' ∷ []) d 0 ≡ added by (get_or (word ∷ []) d 0) along (get_or (index ∷ []) d 0)
    at-index zero h = f
    at-index (suc d) h = absurd (omega arith)
