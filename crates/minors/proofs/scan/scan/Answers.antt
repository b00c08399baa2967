-- `scan`: after each turn one more row of X is reduced, and for one more a the rows up to top.
use mathlib.Core.Path.{◌≡◌}
use Prim.Native.Nat.{◌≤◌, ◌<◌}
use native.Mathlib.Numerals.{add-one}
use native.Mathlib.Omega.{arith}
use lib.ListN.{get_or}
use Rattle.digits.specs.Digits.{digit}
use Rattle.minors.proofs.Scanned.{scanned_none, scanned_next, scanned_stops, scanned_all, first_doubt_within}
use Rattle.minors.proofs.scan.scan.Goals as goal

pub loop-a-init : goal.loop-a-init
loop-a-init c = let level = c.args.level in
    (omega arith, omega arith, omega arith, λ X Y xs ys. scanned_none c.rows-x.result c.rows-y.result level xs ys)

pub returns-then-by-a-eq0 : goal.returns-then-by-a-eq0
returns-then-by-a-eq0 c = let l = c.loop-a in
    let P = c.args in
    let s = l.invariant.3 P.first P.second c.rows-x.ensures c.rows-y.ensures in
    let none = scanned_stops s c.loop-a-test.true (omega arith) in
    record { positive = omega arith; wide = omega arith; within = omega arith; none_before = none }

pub loop-a-preserved : goal.loop-a-preserved
loop-a-preserved c = let l = c.loop-a in
    let room : l.a < 32 = omega arith in
    let small : l.top ≤ 32 = omega arith in
    let one : digit 2 l.a (get_or l.x l.a 0) ≡ 1 = omega (arith, c.if-by-a-eq0.false) in (
      omega arith,
      omega arith,
      first_doubt_within l.top l.at c.minors_up_to-r.result l.a c.first_doubt-at.result c.first_doubt-at.ensures c.minors_up_to-r.ensures.0
          l.invariant.2,
      λ X Y xs ys. rw (add-one l.a) (scanned_next (l.invariant.3 X Y xs ys) room c.clear.new.words c.clear-in-loop-a.new.words
          small c.minors_up_to-r.ensures.1 c.minors_up_to-r.ensures.2 c.first_doubt-at.ensures one c.clear.ensures c.clear-in-loop-a.ensures),
    )

pub returns : goal.returns
returns c = let l = c.loop-a in
    let P = c.args in
    let s = l.invariant.3 P.first P.second c.rows-x.ensures c.rows-y.ensures in
    let none = scanned_all s l.invariant.0 (omega arith) (omega arith) in
    record { positive = omega arith; wide = omega arith; within = omega arith; none_before = none }
