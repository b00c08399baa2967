-- `fill_masked`: the test decides between the buffer as it was and the products masked in place.
use Rattle.std.proofs.Common.{map, length, sym, ap, ◌∙◌}
use Rattle.products.specs.Products.{product_added, masked, product_masked}
use Rattle.products.proofs.Consecutive.{masked-after}
use Rattle.products.proofs.Within.{filled_within}
use Rattle.products.proofs.fills.fill_masked.Goals as goal

pub returns : goal.returns
returns c =
    let a = c.args in
    let within = sym c.goes_past.ensures ∙ c.if-goes_past.false in
    let plain = c.fill.ensures ∙ filled_within (product_added a.columns 0) a.start a.out.now within in
    c.mask_all.ensures ∙ ap (map (masked 8 a.masks)) plain
    ∙ masked-after a.columns 8 a.masks a.start (length a.out.now)
    ∙ sym (filled_within (product_masked 8 a.masks a.columns) a.start a.out.now within)
