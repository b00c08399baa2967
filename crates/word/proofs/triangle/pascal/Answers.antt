-- `pascal`: the steps to come, done to the present word, give the product.
-- That the five steps send each column of the identity to that of Pascal's triangle is one computed test, where the loop begins.
use Rattle.std.proofs.Common.{refl, sym, ◌∙◌, rules, Fits, w32}
use Rattle.digits.specs.Digits.{digitwise, plus}
use Rattle.net.proofs.Standard.{iterate, add_down}
use Rattle.word.proofs.Steps.{steps, steps-drop, steps_past, steps-product}
use Rattle.word.proofs.triangle.pascal.Goals as goal

pub loop-width-init : goal.loop-width-init
unfolding steps iterate add_down plus digitwise
loop-width-init c = record { test = record { columns = refl }; to_come = refl }

pub loop-width-preserved : goal.loop-width-preserved
loop-width-preserved c = let l = c.loop-width in
    record { test = l.invariant.test; to_come = steps-drop _ (0, 0) l.width-index l.sum c.loop-width-test.true ∙ l.invariant.to_come }

pub returns : goal.returns
returns c = let l = c.loop-width in
    let word : Fits w32 c.args.word = search rules in
    sym (steps_past _ l.width-index l.sum c.loop-width-test.false) ∙ l.invariant.to_come ∙ steps-product l.invariant.test c.args.word word.fits
