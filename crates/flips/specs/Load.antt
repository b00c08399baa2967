-- The tests of flips, and what loading the flips of two axes from bytes comes to.
use Rattle.std.specs.Prelude.{not, ◌||◌, List, [], ◌∷◌, ℕ, eqb, length, replicate}
use Rattle.refusal.specs.Outcome.{Outcome, accepted, Test, first, granted}
use Rattle.flips.specs.Flips.{flip_bit}
use Rattle.flips.specs.declared.sets.Flips.{Flips}

-- how many bytes the flips of an axis have
abbrev pub flip_bytes : ℕ
flip_bytes = 32

-- the bytes of two axes
abbrev pub flips_of : List ℕ → List ℕ → Flips
flips_of x y = record { x = x; y = y }

-- 17: the flips of an axis are not 32 bytes
abbrev pub not_flips : Flips → Test
not_flips f = record { number = 17; holds = not (eqb (length f.x) flip_bytes) || not (eqb (length f.y) flip_bytes) }

-- 18: flip bit 255 of an axis is set, which belongs to no bit of a word
abbrev pub unused_set : Flips → Test
unused_set f = record { number = 18; holds = eqb (flip_bit f.x 255) 1 || eqb (flip_bit f.y 255) 1 }

-- both, in this order
abbrev pub flips_tests : Flips → List Test
flips_tests f = not_flips f ∷ unused_set f ∷ []

abbrev pub flips_outcome : Flips → Outcome Unit
flips_outcome f = first (flips_tests f) (accepted tt)

-- no bit is set
abbrev pub no_flips : Flips
no_flips = flips_of (replicate flip_bytes 0) (replicate flip_bytes 0)

-- the flips that are loaded; of bytes that are refused no bit is set
abbrev pub flips_loaded : Flips → Flips
flips_loaded f = granted (flips_outcome f) f no_flips

-- and loading hands them out
abbrev pub flips_load_outcome : Flips → Outcome Flips
flips_load_outcome f = first (flips_tests f) (accepted f)
