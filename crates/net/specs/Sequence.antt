-- Sequences of points, blocks of their indexes and elementary intervals, over any two coordinate functions.
use Rattle.std.specs.Prelude.{◌≡◌, ◌≢◌, Bool, ◌&&◌, ℕ, ◌+◌, ◌-◌, ◌*◌, ◌/◌, ◌^◌, ◌≤◌, ◌<◌, eqb}
use Rattle.ranges.specs.Unique.{Only}
use Rattle.digits.specs.Digits.{minus}

-- for each index a point, by its two coordinates of R digits in base b
pub record Sequence : Type 0 where
  pub b : ℕ
  pub R : ℕ
  pub x : ℕ → ℕ
  pub y : ℕ → ℕ

abbrev pub point : Sequence → ℕ → ℕ × ℕ
point S i = (S.x i, S.y i)

-- the coordinates have R digits
pub record Fits (S : Sequence) : Type 0 where
  pub x : (i : ℕ) → S.x i < S.b ^ S.R
  pub y : (i : ℕ) → S.y i < S.b ^ S.R

-- the t highest of R digits
abbrev pub top : ℕ → ℕ → ℕ → ℕ → ℕ
top b R t w = w / b ^ (R - t)

-- The shape (m, a) (01's word) has b ^ a columns and b ^ (m - a) rows of elementary intervals (01: cells). The column of index i is
-- the a highest digits of its first coordinate, its row the d = m - a highest of its second.
abbrev pub column : Sequence → ℕ → ℕ → ℕ
column S a i = top S.b S.R a (S.x i)

abbrev pub row : Sequence → ℕ → ℕ → ℕ
row S d i = top S.b S.R d (S.y i)

-- index i is in block k of size m
pub record Block (b m k i : ℕ) : Type 0 where
  pub from : k * b ^ m ≤ i
  pub below : i < (k + 1) * b ^ m

-- index i is in block k, and its point in column c and row r of the shape (m, a)
pub record VisitIn (S : Sequence) (m a k c r i : ℕ) : Type 0 where
  pub in_block : Block S.b m k i
  pub in_column : column S a i ≡ c
  pub in_row : row S (m - a) i ≡ r

-- block k visits each interval of the shape exactly once, that of column c and row r at the index `find c r`
abbrev pub Finds : Sequence → ℕ → ℕ → ℕ → (ℕ → ℕ → ℕ) → Type 0
Finds S m a k find = (c r : ℕ) → c < S.b ^ a → r < S.b ^ (m - a) → Only (VisitIn S m a k c r) (find c r)

-- a point, and the point of index i, lies in column c and row r of the shape (m, a)
abbrev pub inside : Sequence → ℕ → ℕ → ℕ → ℕ → ℕ → ℕ → Bool
inside S m a c r x y = eqb (top S.b S.R a x) c && eqb (top S.b S.R (m - a) y) r

abbrev pub lies : Sequence → ℕ → ℕ → ℕ → ℕ → ℕ → Bool
lies S m a c r i = inside S m a c r (S.x i) (S.y i)

-- column c and row r less those of the first index of block k, digit by digit (in base two: exclusive or)
abbrev pub column_less : Sequence → ℕ → ℕ → ℕ → ℕ → ℕ
column_less S m a k c = minus S.b c (column S a (k * S.b ^ m))

abbrev pub row_less : Sequence → ℕ → ℕ → ℕ → ℕ → ℕ
row_less S m a k r = minus S.b r (row S (m - a) (k * S.b ^ m))

-- ---- intervals with two visits

-- the points of i and j lie in one interval of the shape (m, a)
pub record Share (S : Sequence) (m a i j : ℕ) : Type 0 where
  pub one_column : column S a i ≡ column S a j
  pub one_row : row S (m - a) i ≡ row S (m - a) j

-- no two indexes below b ^ m share an interval
abbrev pub Apart : Sequence → ℕ → ℕ → Type 0
Apart S m a = (i j : ℕ) → i < S.b ^ m → j < S.b ^ m → Share S m a i j → i ≡ j

-- index 0 shares its interval with no other below b ^ m
abbrev pub Alone : Sequence → ℕ → ℕ → Type 0
Alone S m a = (i : ℕ) → i < S.b ^ m → Share S m a i 0 → i ≡ 0

-- some interval holds two indexes below b ^ m
pub record Crowded (S : Sequence) (m a : ℕ) : Type 0 where
  pub i : ℕ
  pub j : ℕ
  pub i_below : i < S.b ^ m
  pub j_below : j < S.b ^ m
  pub differ : i ≢ j
  pub share : Share S m a i j

-- j is the least index above 0 that shares the interval of index 0, and it is below b ^ m
pub record Least (S : Sequence) (m a j : ℕ) : Type 0 where
  pub positive : 0 < j
  pub below : j < S.b ^ m
  pub shares : Share S m a j 0
  pub least : (i : ℕ) → 0 < i → Share S m a i 0 → j ≤ i
