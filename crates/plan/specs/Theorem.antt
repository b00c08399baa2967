-- Demand 2 of 01, its first sentence, with the flips that C-16 puts between product and scramble, about the points that the contracts cite
-- (`sequence`): a coordinate is the matrix product modulo 2, flipped, with the scramble added. proofs/Theorem gives the one term of `Theorems`.
use Rattle.std.specs.Prelude.{◌≡◌, List, ℕ, zero, suc, ◌+◌, ◌-◌, ◌*◌, ◌%◌, ◌<◌, length}
use Rattle.digits.specs.Digits.{digit}
use Rattle.linear.specs.Matrix.{sum}
use Rattle.net.specs.Generators.{Valid, entry}
use Rattle.net.specs.Scrambling.{shifted}
use Rattle.flips.specs.Flips.{flip_at}
use Rattle.plan.specs.declared.pair.Plan.{Plan}
use Rattle.plan.specs.declared.points.Shift.{Shift}
use Rattle.plan.specs.declared.points.Scramble.{Scramble}
use Rattle.plan.specs.Pair.{generators, only_shift, sequence}

-- A coordinate w of the index i, for a matrix with the columns C and the shift s: for each row r, which is digit 31 - r, the sum over the
-- columns of entry times index digit, plus the shift's digit, modulo 2.
abbrev pub MatrixEquation : List ℕ → (s i w : ℕ) → Type 0
MatrixEquation C s i w = (r : ℕ) → r < 32
    → digit 2 (31 - r) w ≡ (sum (length C) (λ c. entry 2 32 C r c * digit 2 c i) + digit 2 (31 - r) s) % 2

-- row r of the product of a matrix with the index i, and the number of the t leading bits of the product, which are its rows 0 to t - 1
abbrev pub product_bit : List ℕ → (i r : ℕ) → ℕ
product_bit C i r = sum (length C) (λ c. entry 2 32 C r c * digit 2 c i) % 2

unfoldable pub leading_bits : List ℕ → (i t : ℕ) → ℕ
leading_bits C i zero = 0
leading_bits C i (suc t) = leading_bits C i t * 2 + product_bit C i t

-- The same under flips: between the product's row and the shift's digit comes the flip bit that the leading bits of the product choose.
abbrev pub FlippedEquation : List ℕ → (flips : List ℕ) → (s i w : ℕ) → Type 0
FlippedEquation C flips s i w = (r : ℕ) → r < 32
    → digit 2 (31 - r) w ≡ (product_bit C i r + flip_at flips r (leading_bits C i r) + digit 2 (31 - r) s) % 2

pub record Theorems : Type 0 where
  -- of every plan whose columns are words (as the code's are), every scramble and index
  pub flipped_x : {P : Plan} → Valid (generators P) → (s : Scramble) (i : ℕ)
      → FlippedEquation P.x s.flips.x s.shift.x i ((sequence P s).x i)
  pub flipped_y : {P : Plan} → Valid (generators P) → (s : Scramble) (i : ℕ)
      → FlippedEquation P.y s.flips.y s.shift.y i ((sequence P s).y i)
  -- without flips: of every plan, shift and index; and it is the sequence that 01 has
  pub x : (P : Plan) (s : Shift) (i : ℕ) → MatrixEquation P.x s.x i ((sequence P (only_shift s)).x i)
  pub y : (P : Plan) (s : Shift) (i : ℕ) → MatrixEquation P.y s.y i ((sequence P (only_shift s)).y i)
  pub unflipped : {P : Plan} → Valid (generators P) → (s : Shift) → sequence P (only_shift s) ≡ shifted (generators P) s.x s.y
