-- `judging::judge_link`: refused as the file and its record 0 are, and else judged as the chain is.
use mathlib.Core.Path.{sym, ◌∙◌}
use Rattle.region_file.specs.Judge.{no_further_tests}
use Rattle.region_file.proofs.Chain.{head_few}
use Rattle.region_file.proofs.Stop.{head-refused, head_passed}
use Rattle.region_file.proofs.judging.judge_link.Goals as goal

pub returns-in-Err : goal.returns-in-Err
returns-in-Err c =
    let h = head-refused no_further_tests c.args.file.now (sym c.in-Err.ensures) in
    record { judgement = sym h.0; link = sym h.1 }

pub judge_chain-requires : goal.judge_chain-requires
judge_chain-requires c = head_few c.args.file.now (sym c.in-Ok.ensures)

pub returns-in-Ok : goal.returns-in-Ok
returns-in-Ok c =
    let h = head_passed no_further_tests c.args.file.now (sym c.in-Ok.ensures) in
    record { judgement = c.judge_chain.ensures.judgement ∙ sym h.0; link = c.judge_chain.ensures.link ∙ sym h.1 }
