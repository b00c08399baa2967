-- `minors_up_to`: after each turn one more row is reduced.
use Rattle.std.proofs.Common.{◌≡◌, ◌-◌, ◌<◌, get_or, arith}
use Rattle.digits.specs.Digits.{digit}
use Rattle.minors.proofs.Scanned.{going_more}
use Rattle.minors.proofs.scan.minors_up_to.Goals as goal

pub loop-m-preserved : goal.loop-m-preserved
loop-m-preserved c = let a = c.args in
    let l = c.loop-m in
    let one : digit 2 l.m (get_or l.reduced (l.m - a.a) 0) ≡ 1 = omega (arith, c.if-by-m-eq0.false) in
    let small : l.m < 32 = omega arith in
    going_more a.words l.reduced c.clear.new.words a.a l.m l.invariant (omega arith) small one c.clear.ensures
