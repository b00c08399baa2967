-- Two tests that hold together hold each, and where neither holds, each does not. Assumes nothing.
use mathlib.Core.Path.{◌≡◌, refl, sym}
use mathlib.Core.Bool.{Bool, true, false, ◌&&◌, ◌||◌, true≢false}

pub both_hold : (s t : Bool) → (s && t) ≡ true → (s ≡ true) × (t ≡ true)
both_hold true t e = (refl, e)
both_hold false t e = absurd (true≢false (sym e))

pub neither_holds : (s t : Bool) → (s || t) ≡ false → (s ≡ false) × (t ≡ false)
neither_holds true t e = absurd (true≢false e)
neither_holds false t e = (refl, e)
