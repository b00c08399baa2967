-- The numbers with one left out.
use Rattle.std.specs.Prelude.{ℕ, zero, suc}

-- the numbers other than j, in order: skip j 0, skip j 1, ..
unfoldable pub skip : ℕ → ℕ → ℕ
skip zero c = suc c
skip (suc j) zero = zero
skip (suc j) (suc c) = suc (skip j c)
