-- A buffer that a loop fills from its front, and one filled with a word that runs along. Assumes nothing.
use mathlib.Core.Path.{◌≡◌, refl, sym, ap, ap₂, subst, ◌∙◌}
use mathlib.Core.List.{List, [], ◌∷◌, ◌++◌, map, append_assoc, map-append}
use Prim.Native.Nat.{ℕ, suc, ◌+◌, ◌≤◌, ◌<◌}
use native.Mathlib.Nat.{zero-add}
use native.Mathlib.Numerals.{add-one}
use native.Mathlib.Omega.{arith}
use borrow.Rule.Slice.PartMut.{put_mid, post_of, same_len_mid}
use lib.ListN.{length, take, drop, set, length-append, length-set, length-drop}
use lib.Seq.{take-suc-set, take_all, take_at, length-take-le}
use Rattle.ranges.specs.Range.{range}
use Rattle.ranges.proofs.Range.{each-suc, length-each, range_add}

-- as long as l, and its first k elements are f of s, s + 1 and so on
pub record Filled {A : Type 0} (f : ℕ → A) (s k : ℕ) (l buffer : List A) : Type 0 where
  pub long : length buffer ≡ length l
  pub front : take k buffer ≡ map f (range s k)

module _ {A : Type 0} {f : ℕ → A} {s : ℕ} {l : List A} where
  pub filled_none : Filled f s 0 l l
  unfolding range
  filled_none = record { long = refl; front = refl }

  module _ {k : ℕ} {buffer : List A} (now : Filled f s k l buffer) where
    pub filled_more : (x : A) → x ≡ f (s + k) → k < length l → Filled f s (k + 1) l (set buffer k x)
    filled_more x e h = rw (add-one k) (record {
      long = length-set buffer k x ∙ now.long;
      front =
          let room : k < length buffer = omega (arith, now.long) in
          take-suc-set buffer k x room ∙ ap₂ (λ (t : List A) (y : A). t ++ (y ∷ [])) now.front e ∙ sym (each-suc f s k);
    })

    -- a part filled by itself, as a lent part of the buffer comes back
    pub filled-part : (m n : ℕ) (part : List A) → m ≡ n → part ≡ map f (range (s + k) n) → k + n ≤ length l
        → Filled f s (k + n) l (put_mid k m buffer part)
    filled-part m n part e is h = record {
      long = same_len_mid k m buffer part (many ∙ sym (length-take-le m (drop k buffer) fits ∙ e)) ∙ now.long;
      front =
          ap (take (k + n)) (sym (append_assoc (take k buffer) part (post_of k m buffer)))
          ∙ take_at (take k buffer ++ part) (post_of k m buffer) (k + n)
          (length-append (take k buffer) part ∙ ap₂ (λ (x y : ℕ). x + y) (length-take-le k buffer (omega (arith, now.long))) many)
          ∙ ap₂ (λ (x y : List A). x ++ y) now.front is
          ∙ sym (ap (map f) (range_add s k n) ∙ map-append f (range s k) (range (s + k) n));
    }
      where
        many : length part ≡ n
        many = ap length is ∙ length-each f (s + k) n

        fits : m ≤ length (drop k buffer)
        fits = omega (arith, length-drop k buffer, now.long)

    -- the same where the part's length is told by the part that was lent
    pub filled-lent : (m e t : ℕ) (part : List A) → t ≡ s + k → part ≡ map f (range t (length (take m (drop k buffer)))) → e ≡ k + m
        → e ≤ length l → Filled f s e l (put_mid k m buffer part)
    filled-lent m e t part first is ends h =
        subst (λ (n : ℕ). Filled f s n l (put_mid k m buffer part)) (sym ends)
        (filled-part m m part refl
        (is ∙ ap₂ (λ (i n : ℕ). map f (range i n)) first (length-take-le m (drop k buffer) (omega (arith, length-drop k buffer, now.long))))
        (omega (arith, ends, h)))

    pub filled_all : k ≡ length l → buffer ≡ map f (range s (length l))
    filled_all e =
        sym (take_all k buffer (omega (arith, now.long))) ∙ now.front ∙ ap (λ (n : ℕ). map f (range s n)) e

-- and the word is what comes next: f of k, made by g from the one before
pub record Running {A : Type 0} (f : ℕ → A) (k : ℕ) (l buffer : List A) (word : A) : Type 0 where
  pub filled : Filled f 0 k l buffer
  pub word_is : word ≡ f k

pub running_none : {A : Type 0} {f : ℕ → A} {l : List A} → Running f 0 l l (f 0)
running_none = record { filled = filled_none; word_is = refl }

pub running_more : {A : Type 0} {f : ℕ → A} {k : ℕ} {l buffer : List A} {word : A} → Running f k l buffer word
    → (g : A → A) → ((n : ℕ) → f (suc n) ≡ g (f n)) → k < length l → Running f (k + 1) l (set buffer k word) (g word)
running_more {f = f} {k} {word = word} now g step h = record {
  filled = filled_more now.filled word (now.word_is ∙ ap f (sym (zero-add k))) h;
  word_is = ap g now.word_is ∙ sym (step k) ∙ ap f (sym (add-one k));
}
