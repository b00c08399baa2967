-- `FileWalk::open`: from the walk before the first record of an accepted file the file's visits are to come (`visits_from-accepted`).
use Rattle.std.specs.Prelude.{Err}
use mathlib.Core.Path.{◌≡◌, sym, ap, ◌∙◌}
use borrow.Author.Rules.{rules}
use Rattle.refusal.specs.Outcome.{accepted}
use Rattle.refusal.specs.Refusal.{of_judgement, of_result}
use Rattle.refusal.proofs.First.{then-accepted, then-refused}
use Rattle.region_file.specs.Records.{first_record, most_records}
use Rattle.region_file.specs.Judge.{nowhere, no_further_tests}
use Rattle.region_file.proofs.Chain.{judged_chain}
use Rattle.visits.specs.Visits.{file_visits}
use Rattle.visits.specs.FileWalk.{visits_from, visits_to_come}
use Rattle.visits.proofs.Coming.{before_comes, visits_from-accepted}
use Rattle.visits.proofs.file_walks.FileWalk.open.Goals as goal

pub returns-in_err-judge : goal.returns-in_err-judge
returns-in_err-judge c =
    let why = c.in_err-judge.field-0.0 in
    let back : c.from_residual.result ≡ Err why = search rules in
    ap (of_result (visits_to_come c.args.file.now)) back ∙ sym (then-refused _ (sym c.judge.ensures ∙ ap of_judgement c.in_err-judge.was))

pub returns : goal.returns
unfolding file_visits
returns c =
    let file = c.args.file.now in
    let j = sym c.judge.ensures ∙ ap of_judgement c.in_ok-judge.was in
    ap accepted
    (ap (visits_to_come file) c.before_record.ensures
    ∙ before_comes file c.first_record.result most_records
    ∙ ap (visits_from file most_records) c.first_record.ensures
    ∙ visits_from-accepted no_further_tests file most_records nowhere (first_record file) (judged_chain no_further_tests file j))
    ∙ sym (then-accepted _ j)
