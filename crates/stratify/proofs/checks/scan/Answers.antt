-- `scan`: no shape before (m, first) has an even determinant.
use Rattle.std.proofs.Common.{◌≡◌, sym, ap, ◌∙◌, arith, rules}
use Rattle.std.specs.Prelude.{Err}
use Rattle.linear.proofs.Prime.{two}
use Rattle.net.proofs.Scan.{scan_all}
use Rattle.refusal.specs.Refusal.{of_judgement}
use Rattle.stratify.specs.Answers.{of_verdict}
use Rattle.stratify.proofs.checks.scan.Goals as goal

pub returns-in_err-scan_size : goal.returns-in_err-scan_size
returns-in_err-scan_size c =
    let why = c.in_err-scan_size.field-0.0 in
    let back : c.from_residual.result ≡ Err why = search rules in
    ap of_judgement back ∙ c.in_err-scan_size.ensures c.args.level (omega arith) c.requires.1

pub returns : goal.returns
returns c =
    let l = c.loop-m in
    sym (ap of_verdict (scan_all c.requires.0 two c.args.level c.requires.1 l.m l.first (omega arith) l.invariant.2))
