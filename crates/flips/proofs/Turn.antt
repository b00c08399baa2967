-- One turn of the loops that flip a word and lead back, and what they end with. Assumes nothing.
use mathlib.Core.Path.{◌≡◌, refl, sym, ap, ap₂, ◌∙◌}
use mathlib.Core.List.{List}
use Prim.Native.Nat.{ℕ, suc, ◌+◌, ◌-◌, ◌*◌, ◌/◌, ◌%◌, ◌^◌, ◌≤◌, ◌<◌}
use native.Mathlib.Nat.{pow-suc, div-div-eq-div-mul, div-eq_of_lt}
use native.Mathlib.Numerals.{add-one}
use native.Mathlib.Omega.{arith}
use lib.Bits.{bit_xor}
use Rattle.digits.specs.Digits.{plus}
use Rattle.digits.proofs.Digit.{div_lt, pow_pos}
use Rattle.digits.proofs.Arithmetic.{plus-zero, plus_step, plus-join}
use Rattle.digits.proofs.Two.{one_lt_two, plus-two}
use Rattle.net.specs.Sequence.{top}
use Rattle.net.specs.Scrambling.{nested, adding, unnested, taking}
use Rattle.net.proofs.Scrambling.{nested-rest, unnested_lt, unnested-rest}
use Rattle.flips.specs.Flips.{flip_bit, flip_at, flipped, unflipped}
use Rattle.flips.proofs.FlipBits.{flip_bit_lt, at, permutes, leads, passes, passes-back, node_lt}

-- the node of the t bits p, in the tree numbered from its root
abbrev pub Node : ℕ → ℕ → ℕ → Type 0
Node t p node = node + 1 ≡ 2 ^ t + p

module _ (flips : List ℕ) where
  -- the t highest bits, flipped, and unflipped
  abbrev pub high : ℕ → ℕ → ℕ
  high t w = nested 2 32 (adding 2 (flip_at flips)) t w

  abbrev pub low : ℕ → ℕ → ℕ
  low t w = unnested 2 32 (taking 2 (flip_at flips)) t w

  high-none : (w : ℕ) → high 0 w ≡ 0
  unfolding nested
  high-none w = refl

  high-suc : (t w : ℕ) → high (suc t) w ≡ high t w * 2 + (w / 2 ^ (32 - suc t) % 2 + flip_at flips t (top 2 32 t w)) % 2
  unfolding nested
  high-suc t w = refl

  low-none : (w : ℕ) → low 0 w ≡ 0
  unfolding unnested
  low-none w = refl

  low-suc : (t w : ℕ) → low (suc t) w ≡ low t w * 2 + (w / 2 ^ (32 - suc t) % 2 + (2 - flip_at flips t (low t w) % 2)) % 2
  unfolding unnested
  low-suc t w = refl

  half : (w t : ℕ) → t < 8 → w / 2 ^ (31 - t) / 2 ≡ w / 2 ^ (32 - t)
  half w t h =
      let e : suc (31 - t) ≡ 32 - t = omega arith in
      div-div-eq-div-mul w (2 ^ (31 - t)) 2 ∙ ap (λ (p : ℕ). w / p) (sym (pow-suc 2 (31 - t)) ∙ ap (λ (n : ℕ). 2 ^ n) e)

  -- node on by a bit
  next : (t p q d node : ℕ) → q ≡ p * 2 + d → Node t p node → Node (suc t) q (node * 2 + 1 + d)
  next t p q d node e n = let s : 2 ^ suc t ≡ 2 ^ t * 2 = pow-suc 2 t in omega arith

  node_at : (t p node : ℕ) → t < 8 → Node t p node → flip_bit flips node ≡ flip_at flips t p
  node_at t p node h e = ap (flip_bit flips) (omega (arith, pow_pos one_lt_two t)) ∙ sym (at flips t p h)

  node_below : (t p node : ℕ) → t < 8 → p < 2 ^ t → Node t p node → node < 255
  node_below t p node h l e = omega (arith, node_lt t p h l, pow_pos one_lt_two t)

  -- ---- flipping

  flip_node_lt : (w t node : ℕ) → w < 2 ^ 32 → t < 8 → Node t (top 2 32 t w) node → node < 255
  flip_node_lt w t node hw h e =
      let q : t + (32 - t) ≡ 32 = omega arith in
      node_below t (top 2 32 t w) node h (div_lt one_lt_two t (32 - t) w (rw q hw)) e

  -- ---- the mask: what is added to the t highest bits

  pub mask_starts : (w : ℕ) → w < 2 ^ 32 → high 0 w ≡ plus 2 (top 2 32 0 w) 0
  mask_starts w h = high-none w ∙ sym (plus-zero one_lt_two (top 2 32 0 w) ∙ div-eq_of_lt {n = w} {m = 2 ^ 32} h)

  pub mask_node_lt : (w t first : ℕ) → w < 2 ^ 32 → t < 8 → first + 1 ≡ 2 ^ t → first + top 2 32 t w < 255
  mask_node_lt w t first hw h e = flip_node_lt w t (first + top 2 32 t w) hw h (omega arith)

  pub mask_turn : (w t first m : ℕ) → t < 8 → first + 1 ≡ 2 ^ t → high t w ≡ plus 2 (top 2 32 t w) m
      → high (t + 1) w ≡ plus 2 (top 2 32 (t + 1) w) (m * 2 + flip_bit flips (first + top 2 32 t w))
  mask_turn w t first m h n e =
      let r : 32 - suc t ≡ 31 - t = omega arith in
      let v : ℕ = w / 2 ^ (31 - t) in
      let p = top 2 32 t w in
      let f = flip_bit flips (first + p) in
      let l = flip_bit_lt flips (first + p) in
      let is : f ≡ flip_at flips t p = node_at t p (first + p) h (omega arith) in
      let high_half : v / 2 ≡ p = half w t h in
      let m-half : (m * 2 + f) / 2 ≡ m = omega arith in
      let m-low : (m * 2 + f) % 2 ≡ f = omega arith in
      rw (add-one t) (
      high-suc t w
      ∙ ap₂ (λ (k g : ℕ). high t w * 2 + (w / 2 ^ k % 2 + g) % 2) r (sym is)
      ∙ ap (λ (x : ℕ). x * 2 + (v % 2 + f) % 2) (e ∙ ap₂ (plus 2) (sym high_half) (sym m-half))
      ∙ ap (λ (x : ℕ). plus 2 (v / 2) ((m * 2 + f) / 2) * 2 + (v % 2 + x) % 2) (sym m-low)
      ∙ sym (ap (λ (k : ℕ). plus 2 (w / 2 ^ k) (m * 2 + f)) r ∙ plus_step one_lt_two v (m * 2 + f)))

  pub mask-ends : (w t m : ℕ) → t ≡ 8 → high t w ≡ plus 2 (top 2 32 t w) m → bit_xor w (m * 2 ^ 24) ≡ flipped flips w
  mask-ends w t m h e =
      let whole : w / 2 ^ 24 * 2 ^ 24 + w % 2 ^ 24 ≡ w = omega arith in
      let none : m * 2 ^ 24 + 0 ≡ m * 2 ^ 24 = omega arith in
      let lt : w % 2 ^ 24 < 2 ^ 24 = omega arith in
      let pos : 0 < 2 ^ 24 = omega arith in
      let at-eight : high 8 w ≡ plus 2 (w / 2 ^ 24) m = sym (ap (λ (n : ℕ). high n w) h) ∙ e ∙ ap (λ (n : ℕ). plus 2 (top 2 32 n w) m) h in
      sym (plus-two w (m * 2 ^ 24)) ∙ ap₂ (plus 2) (sym whole) (sym none)
      ∙ plus-join one_lt_two 24 (w / 2 ^ 24) m (w % 2 ^ 24) 0 lt pos
      ∙ ap₂ (λ (x y : ℕ). x * 2 ^ 24 + y) (sym at-eight) (plus-zero one_lt_two (w % 2 ^ 24))
      ∙ sym (nested-rest one_lt_two 32 (permutes flips) 8 (passes flips) w 24 refl)

  -- ---- and back

  pub unflip_starts : (w : ℕ) → Node 0 (low 0 w) 0
  unflip_starts w = omega (arith, low-none w)

  pub unflip_node_lt : (w t node : ℕ) → t < 8 → Node t (low t w) node → node < 255
  unflip_node_lt w t node h e = node_below t (low t w) node h (unnested_lt one_lt_two 32 (leads flips) w t) e

  pub unflip_node_le : (w t node : ℕ) → t ≡ 8 → Node t (low t w) node → (255 ≤ node) × (node < 511)
  unflip_node_le w t node h e =
      let g : 2 ^ t ≡ 256 = ap (λ (n : ℕ). 2 ^ n) h in
      let l = unnested_lt one_lt_two 32 (leads flips) w t in
      (omega arith, omega arith)

  -- in base two what was added is taken by adding it
  take-two : (d f : ℕ) → f < 2 → (d + f) % 2 ≡ (d + (2 - f % 2)) % 2
  take-two d f h = omega arith

  pub unflip_turn : (w t node : ℕ) → t < 8 → Node t (low t w) node
      → Node (t + 1) (low (t + 1) w) (node * 2 + 1 + (w / 2 ^ (31 - t) % 2 + flip_bit flips node) % 2)
  unflip_turn w t node h n =
      let r : 32 - suc t ≡ 31 - t = omega arith in
      let v : ℕ = w / 2 ^ (31 - t) in
      let f = flip_bit flips node in
      let e : low (suc t) w ≡ low t w * 2 + (v % 2 + f) % 2 =
      low-suc t w ∙ ap₂ (λ (k g : ℕ). low t w * 2 + (w / 2 ^ k % 2 + (2 - g % 2)) % 2) r (sym (node_at t (low t w) node h n))
      ∙ ap (λ (d : ℕ). low t w * 2 + d) (sym (take-two (v % 2) f (flip_bit_lt flips node))) in
      rw (add-one t) (next t (low t w) (low (suc t) w) ((v % 2 + f) % 2) node e n)

  pub unflip_ends : (w t node : ℕ) → t ≡ 8 → Node t (low t w) node → (node - 255) * 2 ^ 24 + w % 2 ^ 24 ≡ unflipped flips w
  unflip_ends w t node h n =
      let e : low t w ≡ low 8 w = ap (λ (n : ℕ). low n w) h in
      let g : 2 ^ t ≡ 256 = ap (λ (n : ℕ). 2 ^ n) h in
      let q : node - 255 ≡ low 8 w = omega arith in
      ap (λ (y : ℕ). y * 2 ^ 24 + w % 2 ^ 24) q ∙ sym (unnested-rest one_lt_two 32 (leads flips) w 8 (passes-back flips) 24 refl)
