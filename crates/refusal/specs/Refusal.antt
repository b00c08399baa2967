-- The code's refusals: the number in 01's table and the values of each, and the outcome that a result stands for.
use Rattle.std.specs.Prelude.{List, [], ◌∷◌, ℕ, Result, Ok, Err}
use Rattle.refusal.specs.Outcome.{Outcome, accepted, refused}
use Rattle.refusal.specs.declared.Refusal.{Refusal}
use Rattle.refusal.specs.declared.Refusal.TheVariants as variant

-- the number in 01's refusal table; the limits stand at the tests
abbrev pub number : Refusal → ℕ
number variant.WordCount = 1
number variant.Level = 2
number (variant.NotNet m a j) = 3
number variant.Size = 4
number variant.Shape = 5
number variant.Cell = 6
number variant.Block = 7
number variant.BufferLengths = 8
number variant.IndexRange = 9
number variant.Region = 10
number variant.FileLength = 11
number variant.ReservedBytes = 12
number variant.MissingRecord = 13
number variant.ChainReturns = 14
number variant.VisitCount = 15
number variant.Field = 16
number variant.FlipBytes = 17
number variant.FlipBit = 18

-- what a refusal gives besides its number: 3 the shape (m, a) and j
abbrev pub values : Refusal → List ℕ
values variant.WordCount = []
values variant.Level = []
values (variant.NotNet m a j) = m ∷ a ∷ j ∷ []
values variant.Size = []
values variant.Shape = []
values variant.Cell = []
values variant.Block = []
values variant.BufferLengths = []
values variant.IndexRange = []
values variant.Region = []
values variant.FileLength = []
values variant.ReservedBytes = []
values variant.MissingRecord = []
values variant.ChainReturns = []
values variant.VisitCount = []
values variant.Field = []
values variant.FlipBytes = []
values variant.FlipBit = []

-- the outcome of a refused call
abbrev pub of_refusal : {A : Type 0} → Refusal → Outcome A
of_refusal r = refused (number r) (values r)

-- the outcome that a result stands for, its value read by f
abbrev pub of_result : {A B : Type 0} → (A → B) → Result A Refusal → Outcome B
of_result f (Ok a) = accepted (f a)
of_result f (Err r) = of_refusal r

-- the outcome of a call that hands out nothing else
abbrev pub of_judgement : Result Unit Refusal → Outcome Unit
of_judgement = of_result (λ u. u)
