-- The products of consecutive indexes: each from the one before it, and those of a group from the first of it. Both are the additivity of
-- the product. Assumes nothing.
use mathlib.Core.Path.{◌≡◌, refl, sym, ap, ap₂, ◌∙◌}
use mathlib.Core.List.{List, [], ◌∷◌, map, map-map}
use Prim.Native.Nat.{ℕ, zero, suc, ◌+◌, ◌-◌, ◌*◌, ◌/◌, ◌%◌, ◌^◌, ◌≤◌, ◌<◌}
use native.Mathlib.Nat.{zero-add, div-add-mod'}
use native.Mathlib.Numerals.{add-one}
use native.Mathlib.Omega.{arith}
use borrow.Rule.Slice.PartMut.{put_mid}
use lib.Bits.{bit_xor}
use lib.Count.{count_trailing_zeros}
use lib.ListN.{length, get_or, set, take, drop}
use lib.Seq.{get_or-take, get_or-drop}
use Rattle.ranges.specs.Range.{range}
use Rattle.ranges.specs.Below.{Below}
use Rattle.ranges.proofs.Range.{getD_each}
use Rattle.ranges.proofs.Filled.{Filled, filled_none, filled_more, filled-part, filled_all}
use Rattle.digits.specs.Digits.{plus}
use Rattle.digits.proofs.Arithmetic.{plus_assoc, plus-zero, plus-div, plus_split}
use Rattle.digits.proofs.Two.{one_lt_two, plus-two}
use Rattle.net.specs.Generators.{product}
use Rattle.net.specs.Sequence.{top}
use Rattle.net.proofs.Product.{product-plus, product_lt}
use Rattle.net.proofs.Scrambling.{top-none}
use Rattle.net.proofs.Two.{trailing_zeros-lowest}
use Rattle.word.specs.Prefix.{ones, prefixes}
use Rattle.word.proofs.Prefix.{product-next, trailing_zeros-below}
use Rattle.products.specs.Products.{product_added, masked, product_masked, group_entry, group_tables}

-- 63 has six ones
six_ones : ones 2 6 ≡ 63
unfolding ones
six_ones = refl

module _ (C : List ℕ) where
  -- ---- the next index

  module _ (sums : List ℕ) (e : sums ≡ prefixes 2 32 C) where
    running_sum : (t : ℕ) → t < 32 → get_or sums t 0 ≡ product 2 C (ones 2 (suc t))
    running_sum t h =
        ap (λ (l : List ℕ). get_or l t 0) e
        ∙ getD_each (λ (k : ℕ). product 2 C (ones 2 (suc k))) 0 32 t 0 h
        ∙ ap (λ (k : ℕ). product 2 C (ones 2 (suc k))) (zero-add t)

    next-product : (i : ℕ) → suc i < 2 ^ 32 → bit_xor (product 2 C i) (get_or sums (count_trailing_zeros 32 (suc i)) 0) ≡ product 2 C (suc i)
    next-product i h =
        let t : ℕ = count_trailing_zeros 32 (suc i) in
        let some : 0 < suc i = omega arith in
        sym (plus-two (product 2 C i) (get_or sums t 0))
        ∙ ap (plus 2 (product 2 C i)) (running_sum t (trailing_zeros-below (suc i) some h)
        ∙ ap (λ (k : ℕ). product 2 C (ones 2 (suc k))) (trailing_zeros-lowest 32 (suc i)))
        ∙ sym (product-next one_lt_two C 32 i h)

    -- the last of the words so far leads to the next
    pub next_word : (last at t : ℕ) → t ≡ count_trailing_zeros 32 (at + 1) → at + 1 < 2 ^ 32 → last ≡ product 2 C at
        → bit_xor last (get_or sums t 0) ≡ product 2 C (at + 1)
    next_word last at t turn h is =
        ap₂ (λ (w k : ℕ). bit_xor w (get_or sums k 0)) is (turn ∙ ap (count_trailing_zeros 32) (add-one at))
        ∙ next-product at (omega arith)
        ∙ ap (product 2 C) (sym (add-one at))

  -- ---- a group of 64

  -- no digit of the first index of a group and of how far another is from it is in the same place
  group-product : (base i : ℕ) → base % 64 ≡ 0 → i < 64 → plus 2 (product 2 C base) (product 2 C i) ≡ product 2 C (base + i)
  group-product base i whole h = sym (product-plus one_lt_two C base i) ∙ ap (product 2 C) joined
    where
      split : base ≡ base / 64 * 2 ^ 6
      split = omega (arith, div-add-mod' base 64, whole)

      joined : plus 2 base i ≡ base + i
      joined = ap (λ (x : ℕ). plus 2 x i) split ∙ plus_split one_lt_two 6 (base / 64) i h ∙ ap (λ (x : ℕ). x + i) (sym split)

  -- the running sum of six columns leads from the first index of a group to the last
  pub group-last : (sums : List ℕ) → sums ≡ prefixes 2 32 C → (base word : ℕ) → base % 64 ≡ 0 → word ≡ product 2 C base
      → bit_xor word (get_or sums 5 0) ≡ product 2 C (base + 63)
  group-last sums e base word whole is =
      let five : 5 < 32 = omega arith in
      let sixty-three : 63 < 64 = omega arith in
      sym (plus-two word (get_or sums 5 0)) ∙ ap₂ (plus 2) is (running_sum sums e 5 five ∙ ap (product 2 C) six_ones)
      ∙ group-product base 63 whole sixty-three

  module _ (t : ℕ) (masks : List ℕ) where
    table-entry : (v i : ℕ) → v < 2 ^ t → i < 64 → get_or (group_tables t masks C) (v * 64 + i) 0 ≡ group_entry t masks C v i
    table-entry v i small h =
        let within : v * 64 + i < 2 ^ t * 64 = omega arith in
        let at : (0 + (v * 64 + i)) / 64 ≡ v = omega arith in
        let from : (0 + (v * 64 + i)) % 64 ≡ i = omega arith in
        getD_each (λ n. group_entry t masks C (n / 64) (n % 64)) 0 (2 ^ t * 64) (v * 64 + i) 0 within ∙ ap₂ (group_entry t masks C) at from

    -- a part of them is a table
    pub table-part : (tables : List ℕ) → tables ≡ group_tables t masks C → (v at m : ℕ) → at ≡ v * 64 → m ≡ 64 → v < 2 ^ t
        → (i : ℕ) → i < 64 → get_or (take m (drop at tables)) i 0 ≡ group_entry t masks C v i
    table-part tables e v at m place many small i h =
        let room : i < m = omega (arith, many, h) in
        get_or-take m (drop at tables) i 0 room ∙ get_or-drop at tables i 0
        ∙ ap₂ (λ (l : List ℕ) (k : ℕ). get_or l (k + i) 0) e place ∙ table-entry v i small h

    group-masked : (base i : ℕ) → base % 64 ≡ 0 → i < 64
        → plus 2 (product 2 C base) (group_entry t masks C (top 2 32 t (product 2 C base)) i) ≡ product_masked t masks C (base + i)
    group-masked base i whole h =
        let w : ℕ = product 2 C base in
        let p : ℕ = product 2 C i in
        let v : ℕ = top 2 32 t w in
        sym (plus_assoc one_lt_two w p (get_or masks (plus 2 v (top 2 32 t p)) 0))
        ∙ ap (λ (k : ℕ). plus 2 (plus 2 w p) (get_or masks k 0)) (sym (plus-div one_lt_two (32 - t) w p))
        ∙ ap (masked t masks) (group-product base i whole h)

-- where no bits choose there is one table
pub one_table : (C masks table : List ℕ) → table ≡ group_tables 0 masks C → (v : ℕ) → v ≡ 0 → (i : ℕ) → i < 64
    → get_or table i 0 ≡ group_entry 0 masks C v i
one_table C masks table e v none i h =
    let at : i ≡ 0 * 64 + i = omega arith in
    let few : 0 < 2 ^ 0 = omega arith in
    ap₂ (λ (l : List ℕ) (k : ℕ). get_or l k 0) e at ∙ table-entry C 0 masks 0 i few h ∙ ap (λ (k : ℕ). group_entry 0 masks C k i) (sym none)

-- one mask for all words: the word that is added
pub one-mask : (C : List ℕ) (s : ℕ) → Below (2 ^ 32) C → (start n : ℕ)
    → map (product_masked 0 (s ∷ []) C) (range start n) ≡ map (product_added C s) (range start n)
one-mask C s words start n = λ i. map (λ k. plus 2 (product 2 C k) (get_or (s ∷ []) (none k i) 0)) (range start n)
  where
    none : (k : ℕ) → top 2 32 0 (product 2 C k) ≡ 0
    none k = top-none one_lt_two 32 (product 2 C k) (product_lt one_lt_two 32 C k words)

-- masked in place, after nothing was added
pub masked-after : (C : List ℕ) (t : ℕ) (masks : List ℕ) (start n : ℕ)
    → map (masked t masks) (map (product_added C 0) (range start n)) ≡ map (product_masked t masks C) (range start n)
masked-after C t masks start n =
    map-map (masked t masks) (product_added C 0) (range start n)
    ∙ (λ i. map (λ k. masked t masks (plus-zero one_lt_two (product 2 C k) i)) (range start n))

-- the products with the indexes 0 to 63, to which nothing is added
abbrev pub first_group : List ℕ → List ℕ
first_group C = map (product_masked 0 (0 ∷ []) C) (range 0 64)

-- an element of a list of one 0
only_zero : (k : ℕ) → get_or {A = ℕ} (0 ∷ []) k 0 ≡ 0
only_zero zero = refl
only_zero (suc k) = refl

pub first-product : (C low : List ℕ) → low ≡ first_group C → (i : ℕ) → i < 64 → get_or low i 0 ≡ product 2 C i
first-product C low e i h =
    ap (λ (l : List ℕ). get_or l i 0) e ∙ getD_each (product_masked 0 (0 ∷ []) C) 0 64 i 0 h
    ∙ ap (product_masked 0 (0 ∷ []) C) (zero-add i) ∙ ap (plus 2 (product 2 C i)) (only_zero (top 2 32 0 (product 2 C i)))
    ∙ plus-zero one_lt_two (product 2 C i)

-- ---- lists

-- two functions that agree along two ranges
each_same : {A : Type 0} (g h : ℕ → A) (s t n : ℕ) → ((i : ℕ) → i < n → g (s + i) ≡ h (t + i)) → map g (range s n) ≡ map h (range t n)
unfolding range
each_same g h s t zero e = refl
each_same g h s t (suc n) e =
    ap₂ (λ x l. x ∷ l)
    (ap g (omega arith) ∙ e 0 (omega arith) ∙ ap h (omega arith))
    (each_same g h (suc s) (suc t) n (λ i k. ap g (omega arith) ∙ e (suc i) (omega arith) ∙ ap h (omega arith)))

-- a group from its first product and its table
group_products : (C : List ℕ) (t : ℕ) (masks table : List ℕ) (word base : ℕ) → word ≡ product 2 C base → base % 64 ≡ 0
    → ((i : ℕ) → i < 64 → get_or table i 0 ≡ group_entry t masks C (top 2 32 t word) i)
    → map (λ i. plus 2 word (get_or table i 0)) (range 0 64) ≡ map (product_masked t masks C) (range base 64)
group_products C t masks table word base is whole entries =
    each_same (λ i. plus 2 word (get_or table i 0)) (product_masked t masks C) 0 base 64
    (λ i h. ap (λ (k : ℕ). plus 2 word (get_or table k 0)) (zero-add i) ∙ ap (plus 2 word) (entries i h)
    ∙ ap (λ (w : ℕ). plus 2 w (group_entry t masks C (top 2 32 t w) i)) is ∙ group-masked C t masks base i whole h)

-- ---- a fill on its way

-- the first k words of a buffer are filled, and where more are to come, the word is the next product
pub record Along (C : List ℕ) (t : ℕ) (masks : List ℕ) (start k : ℕ) (l buffer : List ℕ) (word : ℕ) : Type 0 where
  pub within : k ≤ length l
  pub filled : Filled (product_masked t masks C) start k l buffer
  pub word_is : k < length l → word ≡ product 2 C (start + k)

pub along_none : {C : List ℕ} {t : ℕ} {masks : List ℕ} {start : ℕ} {l : List ℕ} {word : ℕ} → word ≡ product 2 C start
    → Along C t masks start 0 l l word
along_none {C} is = record { within = omega arith; filled = filled_none; word_is = λ h. is ∙ ap (product 2 C) (omega arith) }

module _ {C : List ℕ} {t : ℕ} {masks : List ℕ} {start k : ℕ} {l buffer : List ℕ} {word : ℕ}
    (now : Along C t masks start k l buffer word) where
  pub along_all : length l ≤ k → buffer ≡ map (product_masked t masks C) (range start (length l))
  along_all h = filled_all now.filled (omega (arith, now.within))

  -- one word more
  pub along_one : k < length l → (x next : ℕ) → x ≡ masked t masks word → (k + 1 < length l → next ≡ product 2 C (start + k + 1))
      → Along C t masks start (k + 1) l (set buffer k x) next
  along_one here x next is after = record {
    within = omega arith;
    filled = filled_more now.filled x (is ∙ ap (masked t masks) (now.word_is here)) here;
    word_is = λ more. after more ∙ ap (product 2 C) (omega arith);
  }

  -- a group more, by its table
  pub along_group : (table : List ℕ) → ((i : ℕ) → i < 64 → get_or table i 0 ≡ group_entry t masks C (top 2 32 t word) i)
      → (start + k) % 64 ≡ 0 → (m : ℕ) (part : List ℕ) → m ≡ 64 → part ≡ map (λ i. plus 2 word (get_or table i 0)) (range 0 64)
      → (e : ℕ) → e ≡ k + 64 → e ≤ length l → (next : ℕ) → (e < length l → next ≡ product 2 C (start + k + 64))
      → Along C t masks start e l (put_mid k m buffer part) next
  along_group table entries whole m part lent is e ends room next after = rw ends (record {
    within = omega arith;
    filled = filled-part now.filled m 64 part lent
        (is ∙ group_products C t masks table word (start + k) (now.word_is (omega arith)) whole entries) (omega arith);
    word_is = λ more. after (omega arith) ∙ ap (product 2 C) (omega arith);
  })
