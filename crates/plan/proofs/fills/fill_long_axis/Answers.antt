-- `fill_long_axis`: masks for flips and shift, through tables.
use mathlib.Core.Path.{◌∙◌}
use Prim.Native.Nat.{◌+◌, ◌^◌}
use borrow.Author.Rules.{rules}
use borrow.Author.Tests.{le-ltb}
use lib.ListN.{length, get_or}
use mir.Syntax.{w32}
use mir.Val.{Fits}
use Rattle.ranges.proofs.Below.{below_of}
use Rattle.word.specs.Index.{index_count}
use Rattle.products.specs.Products.{product_masked}
use Rattle.products.proofs.Within.{filled_within}
use Rattle.plan.proofs.Filling.{axis-flipped}
use Rattle.plan.proofs.fills.fill_long_axis.Goals as goal

pub returns : goal.returns
returns c =
    let a = c.args in
    let masks = c.masks-masks in
    let words = below_of (2 ^ 32) a.columns (λ t. let f : Fits w32 (get_or a.columns t 0) = search rules in f.fits) in
    let within = le-ltb index_count (a.start + length a.out.now) c.requires in
    c.fill_by_tables.ensures
    ∙ filled_within (product_masked 8 masks.result a.columns) a.start a.out.now within
    ∙ axis-flipped a.columns a.flips a.shift words a.start (length a.out.now) masks.result masks.ensures
