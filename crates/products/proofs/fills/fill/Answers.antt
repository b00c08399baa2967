-- `fill`: the test decides between the buffer as it was and the three parts filled, with one mask for all products.
use Rattle.std.proofs.Common.{ℕ, List, [], ◌∷◌, map, sym, ap, ◌∙◌, ◌^◌, length, get_or, rules, Fits, w32}
use Rattle.ranges.specs.Range.{range}
use Rattle.ranges.specs.Below.{Below}
use Rattle.ranges.proofs.Below.{below_of}
use Rattle.products.specs.Products.{product_added, product_masked}
use Rattle.products.proofs.Consecutive.{one-mask}
use Rattle.products.proofs.Within.{filled_within}
use Rattle.products.proofs.fills.fill.Goals as goal

pub returns : goal.returns
returns c =
    let a = c.args in
    let words : Below (2 ^ 32) a.columns = below_of (2 ^ 32) a.columns (λ t. let f : Fits w32 (get_or a.columns t 0) = search rules in f.fits) in
    c.in_parts.ensures
    ∙ ap (λ (C : List ℕ). map (product_masked 0 (a.added ∷ []) C) (range a.start (length a.out.now))) c.new-axis.ensures
    ∙ one-mask a.columns a.added words a.start (length a.out.now)
    ∙ sym (filled_within (product_added a.columns a.added) a.start a.out.now (sym c.goes_past.ensures ∙ c.if-goes_past.false))
