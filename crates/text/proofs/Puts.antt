-- Texts put into a buffer one after the other: the laws of the kit's `paste`, where the whole text is pasted.
-- Assumes nothing.
use mathlib.Core.Path.{◌≡◌, sym, ap, ap₂, ◌∙◌}
use mathlib.Core.Bool.{true, false}
use mathlib.Core.List.{List, [], ◌∷◌, ◌++◌, append_assoc}
use Prim.Native.Nat.{ℕ, ◌+◌, ◌≤◌, ◌<◌}
use native.Mathlib.Nat.{add-zero, add_assoc, le_refl}
use native.Mathlib.Omega.{arith}
use borrow.Author.Tests.{le-leb}
use lib.ListN.{length, take, drop, set, length-append}
use lib.Seq.{paste-zero, paste-suc, length-paste, take-paste, drop-paste, take_all, drop-drop}
use lib.Dec.{leb}
use Rattle.text.specs.Put.{put, written, end}

whole : (s : List ℕ) → take (length s) s ≡ s
whole s = take_all (length s) s (le_refl (length s))

pub put_nothing : (d : List ℕ) (at : ℕ) → put d at [] ≡ d
put_nothing d at = sym (paste-zero d at [])

pub put_one : (d : List ℕ) (at b : ℕ) → at < length d → set d at b ≡ put d at (b ∷ [])
put_one d at b h =
    ap₂ (λ (l : List ℕ) (k : ℕ). set l k b) (paste-zero d at (b ∷ [])) (sym (add-zero at)) ∙ paste-suc d at (b ∷ []) 0 b (omega arith) (omega arith)

length-put : (d : List ℕ) (at : ℕ) (s : List ℕ) → at + length s ≤ length d → length (put d at s) ≡ length d
length-put d at s h = length-paste d at s (length s) h (le_refl (length s))

-- what stands before the end of the text, and behind it
pub take_put : (d : List ℕ) (at : ℕ) (s : List ℕ) → at ≤ length d → take (at + length s) (put d at s) ≡ take at d ++ s
take_put d at s h = take-paste d at s (length s) h (le_refl (length s)) ∙ ap (λ (l : List ℕ). take at d ++ l) (whole s)

pub drop-put : (d : List ℕ) (at : ℕ) (s : List ℕ) → at ≤ length d → drop (at + length s) (put d at s) ≡ drop (at + length s) d
drop-put d at s h = drop-paste d at s (length s) h (le_refl (length s))

-- two texts, the second right after the first, are put as one text
put-put : (d : List ℕ) (at : ℕ) (s t : List ℕ) → at + length s + length t ≤ length d → put (put d at s) (at + length s) t ≡ put d at (s ++ t)
put-put d at s t h =
    let n = at + length s in
    let p = put d at s in
    let le : at ≤ length d = omega arith in
    let e : n + length t ≡ at + length (s ++ t) = add_assoc at (length s) (length t) ∙ ap (λ (k : ℕ). at + k) (sym (length-append s t)) in
    ap₂ (λ (l r : List ℕ). l ++ take (length t) t ++ r) (take_put d at s le)
    (sym (drop-drop (length t) n p) ∙ ap (drop (length t)) (drop-put d at s le) ∙ drop-drop (length t) n d)
    ∙ ap (λ (l : List ℕ). take at d ++ s ++ l ++ drop (n + length t) d) (whole t)
    ∙ ap (λ (l : List ℕ). l ++ drop (n + length t) d) (append_assoc (take at d) s t)
    ∙ ap₂ (λ (l : List ℕ) (k : ℕ). take at d ++ l ++ drop k d) (sym (whole (s ++ t))) e

-- a writer of s ended at byte r, past the text, and left the buffer e, which has the text
abbrev pub Writes : List ℕ → ℕ → List ℕ → ℕ → List ℕ → Type 0
Writes d at s r e = (r ≡ at + length s) × (e ≡ put d at s)

pub writes_keeps_length : (d : List ℕ) (at : ℕ) (s : List ℕ) (r : ℕ) (e : List ℕ) → Writes d at s r e → at + length s ≤ length d → length e ≡ length d
writes_keeps_length d at s r e p h = ap length p.1 ∙ length-put d at s h

-- a writer of s and then a writer of t are a writer of both
pub writes_then : (d : List ℕ) (at : ℕ) (s t : List ℕ) (r : ℕ) (e : List ℕ) (r' : ℕ) (e' : List ℕ)
    → Writes d at s r e → Writes e r t r' e' → at + length s + length t ≤ length d → Writes d at (s ++ t) r' e'
writes_then d at s t r e r' e' p q h = (
  omega (arith, p.0, q.0, length-append s t),
  q.1 ∙ ap (λ (l : List ℕ). put l r t) p.1 ∙ ap (λ (k : ℕ). put (put d at s) k t) p.0 ∙ put-put d at s t h,
)

-- the same of a writer that checks for room for w bytes
abbrev pub WritesIfRoom : ℕ → List ℕ → ℕ → List ℕ → ℕ → List ℕ → Type 0
WritesIfRoom w d at s r e = (r ≡ end w d at s) × (e ≡ written w d at s)

module _ (w : ℕ) (d : List ℕ) (at : ℕ) (s : List ℕ) where
  -- without room it does nothing
  pub without_room : leb (at + w) (length d) ≡ false → WritesIfRoom w d at s at d
  without_room h = (simp h, simp h)

  module _ (r : ℕ) (e : List ℕ) where
    pub to_if_room : leb (at + w) (length d) ≡ true → Writes d at s r e → WritesIfRoom w d at s r e
    to_if_room h p = (simp h p.0, simp h p.1)

    pub from_if_room : at + w ≤ length d → WritesIfRoom w d at s r e → Writes d at s r e
    from_if_room h p = let q = le-leb (at + w) (length d) h in (p.0 ∙ simp q, p.1 ∙ simp q)

-- four writers one after the other, where all four have room
module _ (w₁ w₂ w₃ w₄ : ℕ) (s₁ s₂ s₃ s₄ : List ℕ) (m₁ : length s₁ ≤ w₁) (m₂ : length s₂ ≤ w₂) (m₃ : length s₃ ≤ w₃) (m₄ : length s₄ ≤ w₄) where
  pub four_put : (d : List ℕ) (at r₁ : ℕ) (e₁ : List ℕ) (r₂ : ℕ) (e₂ : List ℕ) (r₃ : ℕ) (e₃ : List ℕ) (r₄ : ℕ) (e₄ : List ℕ)
      → at + (w₁ + w₂ + w₃ + w₄) ≤ length d → WritesIfRoom w₁ d at s₁ r₁ e₁ → WritesIfRoom w₂ e₁ r₁ s₂ r₂ e₂ → WritesIfRoom w₃ e₂ r₂ s₃ r₃ e₃
      → WritesIfRoom w₄ e₃ r₃ s₄ r₄ e₄ → Writes d at (s₁ ++ (s₂ ++ (s₃ ++ s₄))) r₄ e₄
  four_put d at r₁ e₁ r₂ e₂ r₃ e₃ r₄ e₄ h q₁ q₂ q₃ q₄ =
      let p₁ : Writes d at s₁ r₁ e₁ = from_if_room w₁ d at s₁ r₁ e₁ (omega arith) q₁ in
      let l₁ : length e₁ ≡ length d = writes_keeps_length d at s₁ r₁ e₁ p₁ (omega arith) in
      let b₁ : r₁ ≤ at + w₁ = omega (arith, p₁.0) in
      let p₂ : Writes e₁ r₁ s₂ r₂ e₂ = from_if_room w₂ e₁ r₁ s₂ r₂ e₂ (omega arith) q₂ in
      let l₂ : length e₂ ≡ length e₁ = writes_keeps_length e₁ r₁ s₂ r₂ e₂ p₂ (omega arith) in
      let b₂ : r₂ ≤ r₁ + w₂ = omega (arith, p₂.0) in
      let p₃ : Writes e₂ r₂ s₃ r₃ e₃ = from_if_room w₃ e₂ r₂ s₃ r₃ e₃ (omega arith) q₃ in
      let l₃ : length e₃ ≡ length e₂ = writes_keeps_length e₂ r₂ s₃ r₃ e₃ p₃ (omega arith) in
      let b₃ : r₃ ≤ r₂ + w₃ = omega (arith, p₃.0) in
      let p₄ : Writes e₃ r₃ s₄ r₄ e₄ = from_if_room w₄ e₃ r₃ s₄ r₄ e₄ (omega arith) q₄ in
      let n₃ : length (s₃ ++ s₄) ≡ length s₃ + length s₄ = length-append s₃ s₄ in
      let n₂ : length (s₂ ++ (s₃ ++ s₄)) ≡ length s₂ + length (s₃ ++ s₄) = length-append s₂ (s₃ ++ s₄) in
      writes_then d at s₁ (s₂ ++ (s₃ ++ s₄)) r₁ e₁ r₄ e₄ p₁
      (writes_then e₁ r₁ s₂ (s₃ ++ s₄) r₂ e₂ r₄ e₄ p₂ (writes_then e₂ r₂ s₃ s₄ r₃ e₃ r₄ e₄ p₃ p₄ (omega arith)) (omega arith))
      (omega arith)

  -- and how long their texts are together
  pub four_longest : length (s₁ ++ (s₂ ++ (s₃ ++ s₄))) ≤ w₁ + w₂ + w₃ + w₄
  four_longest = omega (arith, length-append s₁ (s₂ ++ (s₃ ++ s₄)), length-append s₂ (s₃ ++ s₄), length-append s₃ s₄)
