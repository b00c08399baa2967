-- `scramble_all`: the words at the front are scrambled.
use mathlib.Core.Path.{◌≡◌}
use mathlib.Core.List.{◌++◌, map}
use lib.ListN.{take, drop}
use Rattle.flips.specs.Scramble.{scramble_word}
use Rattle.flips.proofs.buffers.scramble_all.Given as goal

abbrev pub invariant-loop-word : goal.invariant-loop-word
invariant-loop-word l =
    map (scramble_word l.fn.flips l.fn.shift) (take l.word-index l.initial.words) ++ drop l.word-index l.initial.words ≡ l.words
