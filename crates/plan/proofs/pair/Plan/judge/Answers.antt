-- `Plan::judge`: the one test decides.
use mathlib.Core.Path.{sym}
use Rattle.plan.proofs.Loading.{loading_refuses, loading_accepts}
use Rattle.plan.proofs.pair.Plan.judge.Goals as goal

pub returns-then-words-ne-PAIR_WORDS : goal.returns-then-words-ne-PAIR_WORDS
returns-then-words-ne-PAIR_WORDS c = sym (loading_refuses c.args.words.now c.if-words-ne-PAIR_WORDS.true)

pub returns : goal.returns
returns c = sym (loading_accepts c.args.words.now c.if-words-ne-PAIR_WORDS.false)
