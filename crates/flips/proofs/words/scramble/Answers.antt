-- `scramble`: the shift is added to what the flips give.
use Rattle.flips.proofs.Scrambled.{shifted-after}
use Rattle.flips.proofs.words.scramble.Goals as goal

pub returns : goal.returns
returns c = let a = c.args in shifted-after a.flips a.shift a.word c.flip.ensures
