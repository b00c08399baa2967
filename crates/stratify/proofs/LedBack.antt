-- From a cell under flips and a shift back to the plain run: one strip of an axis, and the number of the plain cell. Assumes nothing.
use mathlib.Core.Path.{◌≡◌, sym, ap, ap₂, ◌∙◌}
use mathlib.Core.List.{List}
use Prim.Native.Nat.{ℕ, ◌+◌, ◌-◌, ◌*◌, ◌/◌, ◌%◌, ◌^◌, ◌≤◌, ◌<◌}
use native.Mathlib.Nat.{lt_of_lt_of_le}
use native.Mathlib.Omega.{arith}
use lib.Bits.{bit_xor}
use lib.Pow.{pow_mono}
use Rattle.digits.proofs.Arithmetic.{plus-join, minus_lt}
use Rattle.digits.proofs.Two.{one_lt_two, plus-two, minus-two}
use Rattle.net.specs.Sequence.{top, column, row}
use Rattle.net.specs.Scrambling.{plain, Lawful, RightInverse}
use Rattle.net.specs.Shape.{Shape}
use Rattle.net.specs.Elimination.{serial, interval, plain_interval}
use Rattle.net.proofs.Scrambling.{undone_scramblings, lift_lt, before_lt}
use Rattle.net.proofs.Interval.{top_lt, serial_lt, row_lt}
use Rattle.word.specs.Matrices.{pair}
use Rattle.word.proofs.Joined.{joined-whole}
use Rattle.flips.specs.Flips.{NoneSet}
use Rattle.flips.specs.Scramble.{unscramble_word}
use Rattle.flips.proofs.Scrambled.{scrambled-lawful, scrambled-undone, shift-left-back}
use Rattle.plan.specs.declared.points.Scramble.{Scramble}
use Rattle.plan.specs.Pair.{scrambling, unscrambling}
use Rattle.stratify.specs.Answers.{ShiftFits}
use Rattle.stratify.specs.Strips.{plain_strip, plain_column, plain_row, plain_number}

-- ---- a scramble of words obeys the law and is undone

module _ (s : Scramble) (fits : ShiftFits s.shift) where
  pub lawful : Lawful 2 32 (scrambling s)
  lawful = record { x = scrambled-lawful s.flips.x s.shift.x fits.x; y = scrambled-lawful s.flips.y s.shift.y fits.y }

  pub undone-x : RightInverse 2 32 (scrambling s).x (unscrambling s).x
  undone-x = scrambled-undone s.flips.x s.shift.x fits.x

  pub undone-y : RightInverse 2 32 (scrambling s).y (unscrambling s).y
  undone-y = scrambled-undone s.flips.y s.shift.y fits.y

-- ---- one strip

module _ (flips : List ℕ) (s t c : ℕ) (l : t ≤ 32) (h : c < 2 ^ t) where
  lift-fits : c * 2 ^ (32 - t) < 2 ^ 32
  lift-fits = lift_lt one_lt_two 32 t c l h

  -- as the code finds it: through a word, and without flips by the shift's own bits
  pub by_word : {word product strip : ℕ} → word ≡ (c * 2 ^ (32 - t) + 0) % 2 ^ 32 → product ≡ unscramble_word flips s word
      → strip ≡ product / 2 ^ (32 - t) → strip ≡ plain_strip flips s t c
  by_word {word} joined unscrambled topped =
      let none : c * 2 ^ (32 - t) + 0 ≡ c * 2 ^ (32 - t) = omega arith in
      let is : word ≡ c * 2 ^ (32 - t) = joined-whole c 0 (32 - t) joined (rw none lift-fits) ∙ none in
      topped ∙ ap (λ (p : ℕ). p / 2 ^ (32 - t)) (unscrambled ∙ ap (unscramble_word flips s) is)

  pub strip_lt : s < 2 ^ 32 → plain_strip flips s t c < 2 ^ t
  strip_lt hs = before_lt one_lt_two 32 (scrambled-undone flips s hs) t c l h

  pub by_shift : NoneSet flips → s < 2 ^ 32 → bit_xor c (top 2 32 t s) ≡ plain_strip flips s t c
  by_shift none hs =
      sym (minus-two c (top 2 32 t s)) ∙ sym ((undone_scramblings one_lt_two 32).before_shift s t c)
      ∙ ap (top 2 32 t) (sym (shift-left-back flips s none (c * 2 ^ (32 - t)) lift-fits (minus_lt one_lt_two 32 (c * 2 ^ (32 - t)) s lift-fits hs)))

-- ---- the number of a cell

-- exclusive ors of numbers of cells go by column and row
pub serial_xor : (d c r u v : ℕ) → r < 2 ^ d → v < 2 ^ d → bit_xor (c * 2 ^ d + r) (u * 2 ^ d + v) ≡ bit_xor c u * 2 ^ d + bit_xor r v
serial_xor d c r u v hr hv =
    sym (plus-two (c * 2 ^ d + r) (u * 2 ^ d + v)) ∙ plus-join one_lt_two d c u r v hr hv
    ∙ ap₂ (λ (p q : ℕ). p * 2 ^ d + q) (plus-two c u) (plus-two r v)

-- a cell's own number is a word
pub number_lt : (m a c r : ℕ) → a ≤ m → m ≤ 32 → c < 2 ^ a → r < 2 ^ (m - a) → c * 2 ^ (m - a) + r < 2 ^ 32
unfolding serial
number_lt m a c r wide size hc hr = lt_of_lt_of_le (serial_lt one_lt_two m a c r wide hc hr) (pow_mono size)

-- without flips the shift adds the same to the number of every cell
pub number-shifted : (s : Scramble) (m a c r : ℕ) → a ≤ m → m ≤ 32 → c < 2 ^ a → r < 2 ^ (m - a) → ShiftFits s.shift
    → NoneSet s.flips.x × NoneSet s.flips.y
    → bit_xor (c * 2 ^ (m - a) + r) (serial 2 (m - a) (top 2 32 a s.shift.x) (top 2 32 (m - a) s.shift.y)) ≡ plain_number s m a c r
unfolding serial
number-shifted s m a c r wide size hc hr fits (nx, ny) =
    let d : ℕ = m - a in
    let u = top 2 32 a s.shift.x in
    let v = top 2 32 d s.shift.y in
    serial_xor d c r u v hr (top_lt one_lt_two 32 d s.shift.y (omega arith) fits.y)
    ∙ ap₂ (λ (p q : ℕ). p * 2 ^ d + q) (by_shift s.flips.x s.shift.x a c (omega arith) hc nx fits.x)
    (by_shift s.flips.y s.shift.y d r (omega arith) hr ny fits.y)

module _ {x y : List ℕ} {m a : ℕ} (shape : Shape (pair x y) m a) where
  -- the number of a plain cell, exclusive or that of the cell of a block's first visit, is that of the cell that answers for it
  pub number_less : (k c r : ℕ) → r < 2 ^ (m - a)
      → bit_xor (serial 2 (m - a) c r) (interval (plain (pair x y)) m a (k * 2 ^ m)) ≡ plain_interval (plain (pair x y)) m a k c r
  unfolding serial interval
  number_less k c r hr =
      let u = column (plain (pair x y)) a (k * 2 ^ m) in
      let v = row (plain (pair x y)) (m - a) (k * 2 ^ m) in
      serial_xor (m - a) c r u v hr (row_lt shape (k * 2 ^ m))
      ∙ ap₂ (λ (p q : ℕ). p * 2 ^ (m - a) + q) (sym (minus-two c u)) (sym (minus-two r v))

  module _ (s : Scramble) (fits : ShiftFits s.shift) where
    pub column_before : (c : ℕ) → c < 2 ^ a → plain_column s a c < 2 ^ a
    column_before c hc =
        let wide = shape.wide in
        let size = shape.fits in
        strip_lt s.flips.x s.shift.x a c (omega arith) hc fits.x

    pub row_before : (r : ℕ) → r < 2 ^ (m - a) → plain_row s m a r < 2 ^ (m - a)
    row_before r hr =
        let wide = shape.wide in
        let size = shape.fits in
        strip_lt s.flips.y s.shift.y (m - a) r (omega arith) hr fits.y
