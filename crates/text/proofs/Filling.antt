-- Text put into a buffer piece by piece: what stands in it, with the text to come, stays the same.
-- Assumes nothing.
use mathlib.Core.Path.{◌≡◌, sym, ap, ◌∙◌}
use mathlib.Core.List.{List, ◌++◌, append_assoc}
use Prim.Native.Nat.{ℕ, ◌+◌, ◌-◌, ◌≤◌}
use native.Mathlib.Omega.{arith}
use lib.ListN.{length, take, drop}
use lib.Seq.{drop-drop}
use Rattle.text.proofs.Puts.{Writes, take_put, drop-put}

-- a text more in the buffer, and what is to come after it
module _ (d e : List ℕ) (at r : ℕ) (s : List ℕ) (h : at ≤ length d) (p : Writes d at s r e) where
  pub joined : (t : List ℕ) → take r e ++ t ≡ take at d ++ (s ++ t)
  joined t =
      ap (λ (k : ℕ). take k e ++ t) p.0
      ∙ ap (λ (l : List ℕ). take (at + length s) l ++ t) p.1
      ∙ ap (λ (l : List ℕ). l ++ t) (take_put d at s h)
      ∙ append_assoc (take at d) s t

  -- behind it nothing has changed
  pub beyond : (d₀ : List ℕ) → drop at d ≡ drop at d₀ → drop r e ≡ drop r d₀
  beyond d₀ q =
      ap (λ (k : ℕ). drop k e) p.0
      ∙ ap (drop (at + length s)) p.1
      ∙ drop-put d at s h
      ∙ sym (drop-drop (length s) at d)
      ∙ ap (drop (length s)) q
      ∙ drop-drop (length s) at d₀
      ∙ ap (λ (k : ℕ). drop k d₀) (sym p.0)

-- buffers that agree from a byte on agree from a later one on
pub behind : (n at : ℕ) (d e : List ℕ) → at ≤ n → drop at d ≡ drop at e → drop n d ≡ drop n e
behind n at d e h q =
    let k : n ≡ at + (n - at) = omega arith in
    ap (λ (m : ℕ). drop m d) k ∙ sym (drop-drop (n - at) at d) ∙ ap (drop (n - at)) q ∙ drop-drop (n - at) at e ∙ ap (λ (m : ℕ). drop m e) (sym k)
