-- 01's example as text, computed from the definition: no reader must rely on it.
-- Assumes nothing.
use mathlib.Core.Path.{◌≡◌, refl}
use mathlib.Core.List.{[], ◌∷◌, ◌++◌}
use Prim.Native.Nat.{ℕ}
use lib.IntN.{ℤ, pos, negsuc}
use Rattle.refusal.specs.Outcome.{accepted, refused}
use Rattle.visits.specs.declared.file_walks.FileVisit.{FileVisit}
use Rattle.text.specs.Decimal.{decimal_in, number_text, signed_text}
use Rattle.listing.specs.Listing.{header, refused_text, line, lines, report}

abbrev at : ℕ → ℕ → ℤ → ℤ → FileVisit
at n i x y = record { number = n; index = i; x = x; y = y }

-- 1 0 -500 0, 1 1 0 400, 1 2 -250 600, 1 3 250 200
example : report (accepted (at 1 0 (negsuc 499) (pos 0) ∷ at 1 1 (pos 0) (pos 400) ∷ at 1 2 (negsuc 249) (pos 600) ∷ at 1 3 (pos 250) (pos 200) ∷ []))
    ≡ header
    ++ ((49 ∷ 32 ∷ 48 ∷ 32 ∷ 45 ∷ 53 ∷ 48 ∷ 48 ∷ 32 ∷ 48 ∷ 10 ∷ [])
    ++ ((49 ∷ 32 ∷ 49 ∷ 32 ∷ 48 ∷ 32 ∷ 52 ∷ 48 ∷ 48 ∷ 10 ∷ [])
    ++ ((49 ∷ 32 ∷ 50 ∷ 32 ∷ 45 ∷ 50 ∷ 53 ∷ 48 ∷ 32 ∷ 54 ∷ 48 ∷ 48 ∷ 10 ∷ [])
    ++ (49 ∷ 32 ∷ 51 ∷ 32 ∷ 50 ∷ 53 ∷ 48 ∷ 32 ∷ 50 ∷ 48 ∷ 48 ∷ 10 ∷ []))))
unfolding lines line number_text signed_text decimal_in
example = refl

-- refused 11
refusal : report (refused 11 []) ≡ 114 ∷ 101 ∷ 102 ∷ 117 ∷ 115 ∷ 101 ∷ 100 ∷ 32 ∷ 49 ∷ 49 ∷ 10 ∷ []
unfolding refused_text number_text decimal_in
refusal = refl
