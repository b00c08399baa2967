-- `fill_axis`: the shift in the products where there are no flips, and else masks for flips and shift.
use mathlib.Core.Path.{◌≡◌, ◌∙◌}
use mathlib.Core.Bool.{false}
use Prim.Native.Nat.{◌+◌, ◌^◌}
use borrow.Author.Rules.{rules}
use borrow.Author.Tests.{le-ltb}
use lib.ListN.{length, get_or}
use mir.Syntax.{w32}
use mir.Val.{Fits}
use Rattle.ranges.specs.Below.{Below}
use Rattle.ranges.proofs.Below.{below_of}
use Rattle.word.specs.Index.{index_count, goes_past}
use Rattle.products.specs.Products.{product_added, product_masked}
use Rattle.products.proofs.Within.{filled_within}
use Rattle.plan.proofs.Filling.{axis-shifted, axis-flipped}
use Rattle.plan.proofs.fills.fill_axis.Goals as goal
use Rattle.plan.proofs.fills.fill_axis.Goals.{Start}

-- the columns are words, and the buffer does not go past the last index
words : (s : goal.Start) → Below (2 ^ 32) s.args.columns
words s = below_of (2 ^ 32) s.args.columns (λ t. let f : Fits w32 (get_or s.args.columns t 0) = search rules in f.fits)

within : (s : goal.Start) → goes_past index_count s.args.start (length s.args.out.now) ≡ false
within s = le-ltb index_count (s.args.start + length s.args.out.now) s.requires

pub returns-then-none_set : goal.returns-then-none_set
returns-then-none_set c =
    let a = c.args in
    let none = c.none_set.ensures.0 c.if-none_set.true in
    c.fill.ensures ∙ filled_within (product_added a.columns a.shift) a.start a.out.now (within (goal.at.returns-then-none_set c).Start)
    ∙ axis-shifted a.columns a.flips a.shift (words (goal.at.returns-then-none_set c).Start) a.start (length a.out.now) none

pub returns : goal.returns
returns c =
    let a = c.args in
    let masks = c.masks-masks in
    c.fill_masked.ensures
    ∙ filled_within (product_masked 8 masks.result a.columns) a.start a.out.now (within (goal.at.returns c).Start)
    ∙ axis-flipped a.columns a.flips a.shift (words (goal.at.returns c).Start) a.start (length a.out.now) masks.result masks.ensures
