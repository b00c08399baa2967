-- `solve`: the pivots are the model's.
use Rattle.std.proofs.Common.{sym, ◌^◌, arith, rules, Fits, get_or, w32}
use Rattle.std.proofs.lemmas.Result.{err_from_is_err_and}
use Rattle.ranges.specs.Below.{Below}
use Rattle.ranges.proofs.Below.{below_of}
use Rattle.digits.proofs.Two.{one_lt_two}
use Rattle.net.proofs.Product.{product-additive, product-pow}
use Rattle.elimination.proofs.Refinement.{pending_none, pending_more, begun_one, clears_one}
use Rattle.elimination.proofs.Outcomes.{positive, eliminated_kernel, eliminated-one}
use Rattle.elimination.proofs.solving.solve.Goals as goal
use Rattle.elimination.proofs.solving.solve.Goals.{Start}

-- the columns are words
words : (s : goal.Start) → Below (2 ^ 32) s.args.columns
words s = below_of (2 ^ 32) s.args.columns (λ t. let f : Fits w32 (get_or s.args.columns t 0) = search rules in f.fits)

pub loop-c-init : goal.loop-c-init
loop-c-init c = pending_none (begun_one _ (λ d h. (sym (product-pow one_lt_two _ d), c.unit_words.ensures.each d (omega arith))))

pub pivot-requires-clause-some : goal.pivot-requires-clause-some
pivot-requires-clause-some c =
    positive c.args.columns (words (goal.at.pivot-requires-clause-some c).Start) c.args.n c.loop-c.invariant (omega arith)

pub returns-in_err-pivot : goal.returns-in_err-pivot
returns-in_err-pivot c =
    let p = err_from_is_err_and c.from_residual.result c.from_residual.ensures.1 in
    rw (p.1, p.2) (eliminated_kernel c.args.columns (words (goal.at.returns-in_err-pivot c).Start) c.args.n c.loop-c.invariant
    (omega arith) c.in_err-pivot.ensures.0 c.args.asked _ c.in_err-pivot.ensures.1)

pub loop-c-preserved : goal.loop-c-preserved
loop-c-preserved c =
    let p = c.in_ok-pivot in
    pending_more (product-additive one_lt_two _) c.loop-c.invariant (omega arith) _ _ _ _ p.pivot.word p.pivot.index
    p.ensures.1 p.ensures.2 p.ensures.0 c.clear.ensures
    (clears_one c.cleared-wanted.ensures.word c.cleared-wanted.ensures.index) (omega arith)

pub returns : goal.returns
returns c = eliminated-one c.args.columns (words (goal.at.returns c).Start) c.args.n c.loop-c.invariant (omega arith)
