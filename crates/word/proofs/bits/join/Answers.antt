-- `join`: from width 32 on the higher number is a multiple of 2 ^ 32.
use Rattle.std.proofs.Common.{◌≡◌, ℕ, ◌+◌, ◌-◌, ◌*◌, ◌%◌, ◌^◌, ◌≤◌, ◌<◌, sym, ap, ◌∙◌, arith}
use Rattle.std.proofs.Math.Nat.{mul_assoc, mul-add-mod_self_right, mod-eq_of_lt}
use lib.Pow.{pow-add}
use Rattle.word.proofs.bits.join.Goals as goal

shifted_out : (high low width : ℕ) → low < 2 ^ 32 → 32 ≤ width → low ≡ (high * 2 ^ width + low) % 2 ^ 32
shifted_out high low width fits past =
    let rest : width ≡ (width - 32) + 32 = omega arith in
    let multiple : high * 2 ^ width ≡ high * 2 ^ (width - 32) * 2 ^ 32 =
    ap (λ (k : ℕ). high * 2 ^ k) rest ∙ ap (λ (p : ℕ). high * p) (pow-add 2 (width - 32) 32) ∙ sym (mul_assoc high (2 ^ (width - 32)) (2 ^ 32)) in
    sym (ap (λ (x : ℕ). (x + low) % 2 ^ 32) multiple ∙ mul-add-mod_self_right (high * 2 ^ (width - 32)) (2 ^ 32) low ∙ mod-eq_of_lt fits)

pub returns-then-width-ge-BITS : goal.returns-then-width-ge-BITS
returns-then-width-ge-BITS c = let a = c.args in shifted_out a.high a.low a.width c.ranges.low.fits c.if-width-ge-BITS.true
