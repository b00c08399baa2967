-- `unscramble`: the exclusive or takes the shift, and `unflip` the flips.
use Rattle.flips.proofs.Scrambled.{unshifted_before}
use Rattle.flips.proofs.words.unscramble.Goals as goal

pub returns : goal.returns
returns c = let a = c.args in unshifted_before a.flips a.shift a.word c.unflip.ensures
