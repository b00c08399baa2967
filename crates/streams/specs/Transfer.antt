-- What a call of read or write came to.
use Rattle.std.specs.Prelude.{ℕ, ◌≤◌}
use Rattle.streams.specs.declared.transfers.Transfer.{Transfer}
use Rattle.streams.specs.declared.transfers.Transfer.TheVariants as transfer

-- no more than n bytes were moved
abbrev pub MovesAtMost : ℕ → Transfer → Type 0
MovesAtMost n (transfer.Moved k) = k ≤ n
MovesAtMost n transfer.Nothing = Unit {0}
MovesAtMost n transfer.Again = Unit {0}
MovesAtMost n (transfer.Failed why) = Unit {0}

-- how many bytes were moved
abbrev pub moved : Transfer → ℕ
moved (transfer.Moved k) = k
moved transfer.Nothing = 0
moved transfer.Again = 0
moved (transfer.Failed why) = 0

-- p holds where the call did not fail and moved nothing
abbrev pub OnNothing : Transfer → Type 0 → Type 0
OnNothing (transfer.Moved k) p = Unit {0}
OnNothing transfer.Nothing p = p
OnNothing transfer.Again p = Unit {0}
OnNothing (transfer.Failed why) p = Unit {0}
