-- What is done to a coordinate after the product: the scrambling, the law that keeps a net a net, and the digital sequence.
use Rattle.std.specs.Prelude.{◌≡◌, ◌↔◌, List, ℕ, zero, suc, ◌+◌, ◌-◌, ◌*◌, ◌%◌, ◌^◌, ◌≤◌, ◌<◌}
use Rattle.digits.specs.Digits.{digit, plus}
use Rattle.net.specs.Generators.{Generators, product}
use Rattle.net.specs.Sequence.{Sequence, top}

-- a function for each coordinate
pub record Scrambling : Type 0 where
  pub x : ℕ → ℕ
  pub y : ℕ → ℕ

-- what it makes of a point
abbrev pub scrambled_point : Scrambling → ℕ × ℕ → ℕ × ℕ
scrambled_point F p = (F.x p.0, F.y p.1)

-- the coordinate of index i: the scrambling of the product of the matrix with the digits of i
abbrev pub coordinate : ℕ → List ℕ → (ℕ → ℕ) → ℕ → ℕ
coordinate b C scrambling i = scrambling (product b C i)

-- the digital sequence of generator matrices with a scrambling, and the plain one (01: both scramble words 0)
abbrev pub digital : Generators → Scrambling → Sequence
digital G F = record { b = G.b; R = G.R; x = coordinate G.b G.X F.x; y = coordinate G.b G.Y F.y }

abbrev pub unchanged : Scrambling
unchanged = record { x = λ w. w; y = λ w. w }

abbrev pub plain : Generators → Sequence
plain G = digital G unchanged

-- a scrambling of any sequence
abbrev pub scrambled : Sequence → Scrambling → Sequence
scrambled S F = record { b = S.b; R = S.R; x = λ i. F.x (S.x i); y = λ i. F.y (S.y i) }

-- ---- the law

-- For each t the t highest digits of f w are a bijection of the t highest digits of w: they are equal exactly where those are, and
-- so each value is taken (Scramblings.LawfulScramblings).
pub record PrefixBijection (b R : ℕ) (f : ℕ → ℕ) : Type 0 where
  pub fits : (w : ℕ) → w < b ^ R → f w < b ^ R
  pub prefix_iff : (t v w : ℕ) → t ≤ R → v < b ^ R → w < b ^ R → (top b R t v ≡ top b R t w) ↔ (top b R t (f v) ≡ top b R t (f w))

pub record Lawful (b R : ℕ) (F : Scrambling) : Type 0 where
  pub x : PrefixBijection b R F.x
  pub y : PrefixBijection b R F.y

-- g is a right inverse of f on numbers of R digits
pub record RightInverse (b R : ℕ) (f g : ℕ → ℕ) : Type 0 where
  pub fits : (w : ℕ) → w < b ^ R → g w < b ^ R
  pub back : (w : ℕ) → w < b ^ R → f (g w) ≡ w

-- where g is a right inverse of f: t digits that f sends to the t highest digits c
abbrev pub prefix_before : ℕ → ℕ → (ℕ → ℕ) → ℕ → ℕ → ℕ
prefix_before b R g t c = top b R t (g (c * b ^ (R - t)))

-- ---- scramblings

-- a digital shift (01: the scramble): s and t are added without carries
abbrev pub shift : ℕ → ℕ → ℕ → Scrambling
shift b s t = record { x = λ w. plus b w s; y = λ w. plus b w t }

abbrev pub shifted : Generators → ℕ → ℕ → Sequence
shifted G s t = digital G (shift G.b s t)

-- Nested (Owen's) scrambling: digit t from the top goes through `permute t p`, p being the t digits above it before any change.
-- This is the number of the t highest digits after it; the scrambling of a whole word has t = R.
unfoldable pub nested : (b R : ℕ) → (ℕ → ℕ → ℕ → ℕ) → ℕ → ℕ → ℕ
nested b R permute zero w = 0
nested b R permute (suc t) w = nested b R permute t w * b + permute t (top b R t w) (digit b (R - suc t) w)

-- each `permute t p` is a permutation of the digits
pub record Permutes (b : ℕ) (permute : ℕ → ℕ → ℕ → ℕ) : Type 0 where
  pub digits : (t p d : ℕ) → d < b → permute t p d < b
  pub distinct : (t p d e : ℕ) → d < b → e < b → permute t p d ≡ permute t p e → d ≡ e

-- nested shifts (in base two nested flips): `add t p` is added to the digit. To the depth d: `add t p` is 0 for t from d on.
abbrev pub adding : ℕ → (ℕ → ℕ → ℕ) → ℕ → ℕ → ℕ → ℕ
adding b add t p d = (d + add t p) % b

-- what nested scrambling sends to v, where each `back t p` leads back through `permute t p`: the digits above come first
unfoldable pub unnested : (b R : ℕ) → (ℕ → ℕ → ℕ → ℕ) → ℕ → ℕ → ℕ
unnested b R back zero v = 0
unnested b R back (suc t) v =
    let p = unnested b R back t v in
    p * b + back t p (digit b (R - suc t) v)

pub record LeadsBack (b : ℕ) (permute back : ℕ → ℕ → ℕ → ℕ) : Type 0 where
  pub digits : (t p d : ℕ) → d < b → back t p d < b
  pub returns : (t p d : ℕ) → d < b → permute t p (back t p d) ≡ d

abbrev pub taking : ℕ → (ℕ → ℕ → ℕ) → ℕ → ℕ → ℕ → ℕ
taking b add t p d = (d + (b - add t p % b)) % b
