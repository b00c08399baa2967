-- `Flips::loaded`: the bytes of both axes where they are flips, and else none is set.
use mathlib.Core.Path.{◌≡◌, sym, ◌∙◌}
use borrow.Author.Rules.{rules}
use Rattle.refusal.specs.Outcome.{accepted}
use Rattle.refusal.proofs.First.{granted-accepted, granted-refused}
use Rattle.refusal.proofs.Results.{stops, passes}
use Rattle.flips.specs.declared.sets.Flips.{Flips}
use Rattle.flips.specs.Load.{flips_of, flips_tests, flips_outcome}
use Rattle.flips.proofs.sets.Flips.loaded.Goals as goal

pub returns-in-Ok : goal.returns-in-Ok
returns-in-Ok c =
    let f = flips_of c.args.x.now c.args.y.now in
    let j = c.judge in
    let judged : flips_outcome f ≡ accepted tt = passes (λ u. u) (flips_tests f) tt j.result j.ensures.answer tt c.in-Ok.is (accepted tt) in
    let x : c.copy_from_slice.new.self ≡ c.args.x.now = search rules in
    let y : c.copy_from_slice-in-Ok.new.self ≡ c.args.y.now = search rules in
    let both : ◌≡◌ {A = Flips} (record { x = c.copy_from_slice.new.self; y = c.copy_from_slice-in-Ok.new.self }) f =
    λ i. record { x = x i; y = y i } in
    both ∙ sym (granted-accepted _ _ judged)

pub returns-in_default : goal.returns-in_default
returns-in_default c =
    let f = flips_of c.args.x.now c.args.y.now in
    c.none-flips.ensures
    ∙ sym (granted-refused _ _ (sym (stops (λ u. u) (flips_tests f) tt c.judge.result c.judge.ensures.answer _ c.in_default.is (accepted tt))))
