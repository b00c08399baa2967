-- `solve`: the first c columns are a basis of the model, and the columns after them and the word asked for are cleared by it.
use Rattle.std.proofs.Common.{[], ◌∷◌}
use Rattle.net.specs.Generators.{product}
use Rattle.elimination.proofs.Refinement.{Pending}
use Rattle.elimination.proofs.solving.solve.Given as goal

abbrev pub invariant-loop-c : goal.invariant-loop-c
invariant-loop-c l =
    Pending (product 2 l.fn.columns) l.n 1 (λ t. l.fn.asked) l.c l.entries.words l.entries.indexes
    (l.wanted.word ∷ []) (l.wanted.index ∷ [])
