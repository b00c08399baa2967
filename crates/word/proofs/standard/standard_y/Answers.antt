-- `standard_y`: `pascal` reverses the reversed index again.
use mathlib.Core.Path.{ap, ◌∙◌}
use borrow.Author.Rules.{rules}
use mir.Syntax.{w32}
use mir.Val.{Fits}
use Rattle.digits.specs.Digits.{reversed}
use Rattle.digits.proofs.Two.{one_lt_two}
use Rattle.digits.proofs.Reversed.{reversed-twice}
use Rattle.net.specs.Generators.{product}
use Rattle.net.specs.Standard.{standard}
use Rattle.word.proofs.standard.standard_y.Goals as goal

pub returns : goal.returns
returns c = let a = c.args in
    let index : Fits w32 a.index = search rules in
    c.pascal.ensures ∙ ap (product 2 (standard 2 32 32).Y)
    (ap (reversed 2 32) c.reversed-first.ensures ∙ reversed-twice one_lt_two 32 a.index index.fits)
