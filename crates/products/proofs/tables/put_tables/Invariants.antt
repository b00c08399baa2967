-- `put_tables`: each entry is made of the first group, whatever matrix it comes from.
use Rattle.std.proofs.Common.{◌≡◌, ℕ, ◌/◌, ◌%◌, List}
use Rattle.ranges.proofs.Filled.{Filled}
use Rattle.products.specs.Products.{group_entry}
use Rattle.products.proofs.Consecutive.{first_group}
use Rattle.products.proofs.tables.put_tables.Given as goal

abbrev pub entry : ℕ → (masks C : List ℕ) → ℕ → ℕ
entry t masks C n = group_entry t masks C (n / 64) (n % 64)

abbrev pub invariant-loop-n : goal.invariant-loop-n
invariant-loop-n l = (C : List ℕ) → l.low ≡ first_group C → Filled (entry l.masking.bits l.masking.masks.now C) 0 l.n l.initial.tables l.tables
