-- `solve_units`: the first c columns are a basis of the model, and the columns after them and the unit words are cleared by it.
use Rattle.std.proofs.Common.{◌^◌}
use Rattle.net.specs.Generators.{product}
use Rattle.elimination.proofs.Refinement.{Pending}
use Rattle.elimination.proofs.inverse.solve_units.Given as goal

abbrev pub invariant-loop-c : goal.invariant-loop-c
invariant-loop-c l =
    Pending (product 2 l.fn.columns) l.n l.n (λ t. 2 ^ t) l.c l.entries.words l.entries.indexes l.units.words l.units.indexes
