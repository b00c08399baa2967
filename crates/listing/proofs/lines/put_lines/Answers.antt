-- `put_lines`: what stands in the buffer, with the lines to come, stays the same.
use mathlib.Core.Path.{◌≡◌, sym, ap, ◌∙◌}
use mathlib.Core.List.{List, ◌∷◌, ◌++◌}
use Prim.Native.Nat.{ℕ}
use native.Mathlib.Omega.{arith}
use lib.ListN.{take}
use Rattle.visits.specs.FileWalk.{visits_to_come}
use Rattle.text.proofs.Filling.{joined, beyond}
use Rattle.listing.specs.Listing.{line, lines}
use Rattle.listing.proofs.Putting.{line_longest, line-some, lines_more}
use Rattle.listing.proofs.lines.put_lines.Goals as goal

pub loop-out-smaller : goal.loop-out-smaller
loop-out-smaller c =
    let u = c.put_line-len in
    let v = c.in-Some.visit in
    omega (arith, c.loop-out-test.true, c.loop-out.invariant.fits, u.ensures.end, u.auto.out, line-some v, line_longest v)

pub loop-out-preserved : goal.loop-out-preserved
loop-out-preserved c =
    let a = c.args in
    let l = c.loop-out in
    let i = l.invariant in
    let u = c.put_line-len in
    let v = c.in-Some.visit in
    let rest = visits_to_come a.file.now c.step.new.self in
    let come : visits_to_come a.file.now l.walk ≡ v ∷ rest = c.in-Some.ensures in record {
      on = omega (arith, i.on, u.ensures.end);
      fits = omega (arith, i.fits, c.loop-out-test.true, u.ensures.end, u.auto.out, line_longest v);
      same = u.auto.out ∙ i.same;
      joins = joined l.out u.new.out l.len u.result (line v) i.fits (u.ensures.end, u.ensures.text) (lines rest)
          ∙ ap (λ (t : List ℕ). take l.len l.out ++ t) (sym (lines_more v rest) ∙ ap lines (sym come))
          ∙ i.joins;
      beyond = beyond l.out u.new.out l.len u.result (line v) i.fits (u.ensures.end, u.ensures.text) a.out.now i.beyond;
    }
