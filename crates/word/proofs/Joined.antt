-- A joined number that fits in 32 bits is joined whole. Assumes nothing.
use mathlib.Core.Path.{◌≡◌, ◌∙◌}
use Prim.Native.Nat.{ℕ, ◌+◌, ◌*◌, ◌%◌, ◌^◌, ◌<◌}
use native.Mathlib.Nat.{mod-eq_of_lt}

pub joined-whole : {r : ℕ} (high low width : ℕ) → r ≡ (high * 2 ^ width + low) % 2 ^ 32 → high * 2 ^ width + low < 2 ^ 32
    → r ≡ high * 2 ^ width + low
joined-whole high low width e fits = e ∙ mod-eq_of_lt fits
