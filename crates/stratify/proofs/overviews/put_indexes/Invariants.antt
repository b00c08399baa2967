-- `put_indexes`: the front of the list is made of products.
use Rattle.std.proofs.Common.{◌≡◌, ◌++◌, take, drop, map}
use Rattle.std.specs.Int.Bits.{bit_xor}
use Rattle.net.specs.Generators.{product}
use Rattle.stratify.proofs.overviews.put_indexes.Given as goal

abbrev pub invariant-loop-answer : goal.invariant-loop-answer
invariant-loop-answer l = map (λ n. bit_xor l.base (product 2 l.inverse n)) (take l.answer-index l.fn.answers) ++ drop l.answer-index l.fn.answers
    ≡ l.answers
