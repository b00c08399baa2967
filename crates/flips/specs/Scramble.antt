-- What follows the product on one axis: the flips, and then the digital shift; what undoes both; and what both add to a word.
use Rattle.std.specs.Prelude.{List, ℕ, ◌*◌, ◌^◌}
use Rattle.digits.specs.Digits.{plus, minus}
use Rattle.flips.specs.Flips.{flipped, unflipped}

-- a product with the flips made and the shift s added
abbrev pub scramble_word : List ℕ → ℕ → ℕ → ℕ
scramble_word flips s w = plus 2 (flipped flips w) s

-- and back: the shift is taken first, then the flips
abbrev pub unscramble_word : List ℕ → ℕ → ℕ → ℕ
unscramble_word flips s w = unflipped flips (minus 2 w s)

-- what is added, without carries, to every word whose top byte is v
abbrev pub mask : List ℕ → ℕ → ℕ → ℕ
mask flips s v = plus 2 (plus 2 (flipped flips (v * 2 ^ 24)) (v * 2 ^ 24)) s
