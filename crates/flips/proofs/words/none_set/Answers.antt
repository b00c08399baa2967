-- `none_set`: all bytes joined are 0 exactly where none of their bits is set.
use Rattle.std.specs.List.{fold}
use mathlib.Core.Path.{◌≡◌}
use borrow.Author.Rules.{rules}
use lib.Bits.{bit_or}
use lib.ListN.{get_or}
use mir.Syntax.{w8}
use mir.Val.{Fits}
use Rattle.flips.proofs.None.{none-joined}
use Rattle.flips.proofs.words.none_set.Goals as goal

pub returns : goal.returns
returns c =
    let flips = c.args.flips in
    let joined : c.fold.result ≡ fold bit_or 0 flips = search rules in
    none-joined flips c.fold.result joined (λ k. let f : Fits w8 (get_or flips k 0) = search rules in f.fits)
