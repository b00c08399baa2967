-- Facts that the proofs of points, fills and walks share. Assumes nothing.
use mathlib.Core.Path.{◌≡◌, sym, ap, ap₂, ◌∙◌}
use mathlib.Core.List.{List}
use Prim.Native.Nat.{ℕ, ◌^◌, ◌<◌}
use lib.ListN.{get_or}
use Rattle.ranges.specs.Walk.{Walk, Stepped, visited}
use Rattle.ranges.proofs.Below.{below_of}
use Rattle.digits.proofs.Two.{one_lt_two}
use Rattle.net.specs.Generators.{Valid}
use Rattle.net.specs.Sequence.{Sequence, point}
use Rattle.net.specs.Run.{Visit, visit}
use Rattle.refusal.specs.Outcome.{Outcome, accepted, refused, through, part_left}
use Rattle.word.specs.Matrices.{pair}

-- a point by its coordinates
pub both : {x y u v : ℕ} → x ≡ u → y ≡ v → ◌≡◌ {A = ℕ × ℕ} (x, y) (u, v)
both e f = ap₂ (λ (a b : ℕ). (a, b)) e f

-- a step that gives the point of the next index gives its visit
abbrev telling : Visit → Walk → Stepped Visit
telling v w = record { answer = visited v; walk = w }

pub tells : (S : Sequence) (w : Walk) (i x y : ℕ) → (x, y) ≡ point S i → telling (record { index = i; x = x; y = y }) w ≡ telling (visit S i) w
tells S w i x y e = ap (λ (p : ℕ × ℕ). telling (record { index = i; x = p.0; y = p.1 }) w) e

-- columns that are words, as the code's are
pub words_valid : (x y : List ℕ) → ((c : ℕ) → get_or x c 0 < 2 ^ 32) → ((c : ℕ) → get_or y c 0 < 2 ^ 32) → Valid (pair x y)
words_valid x y hx hy = record { base = one_lt_two; X_fits = below_of (2 ^ 32) x hx; Y_fits = below_of (2 ^ 32) y hy }

-- the two promises of a step that is refused, and of one that is not
module _ {o : Outcome (Stepped Visit)} (w : Walk) where
  pub step-refused : {n : ℕ} {vs : List ℕ} → refused n vs ≡ o
      → (refused n vs ≡ through (λ (t : Stepped Visit). t.answer) o) × (w ≡ part_left o (λ t. t.walk) w)
  step-refused e = (ap (through (λ (t : Stepped Visit). t.answer)) e, ap (λ (p : Outcome (Stepped Visit)). part_left p (λ t. t.walk) w) e)

  pub step_taken : {t : Stepped Visit} → accepted t ≡ o
      → (accepted t.answer ≡ through (λ (t : Stepped Visit). t.answer) o) × (t.walk ≡ part_left o (λ t. t.walk) w)
  step_taken e = (ap (through (λ (t : Stepped Visit). t.answer)) e, ap (λ (p : Outcome (Stepped Visit)). part_left p (λ t. t.walk) w) e)
