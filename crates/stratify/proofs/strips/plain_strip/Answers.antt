-- `plain_strip`: without flips the shift's own bits, and else through a word.
use mathlib.Core.Path.{ap, ◌∙◌}
use borrow.Author.Rules.{rules}
use lib.Bits.{bit_xor}
use mir.Syntax.{w32}
use mir.Val.{Fits}
use Rattle.stratify.proofs.LedBack.{by_word, by_shift}
use Rattle.stratify.proofs.strips.plain_strip.Goals as goal

pub returns-then-unflipped : goal.returns-then-unflipped
returns-then-unflipped c =
    let a = c.args in
    let none = c.requires.none_set c.if-unflipped.true in
    let f : Fits w32 a.shift = search rules in
    ap (bit_xor a.strip) c.top.ensures ∙ by_shift a.flips a.shift a.t a.strip c.requires.t.0 c.requires.t.1 none f.fits

pub returns : goal.returns
returns c =
    let a = c.args in
    by_word a.flips a.shift a.t a.strip c.requires.t.0 c.requires.t.1 c.join-word.ensures c.unscramble.ensures
    c.top-2.ensures
