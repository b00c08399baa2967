-- What it means that a text was written whole.
use Rattle.std.specs.Prelude.{◌≡◌, ◌≢◌, ℕ, ◌+◌, ◌%◌, ◌^◌, ◌<◌, List, length, take, Option, Result, Ok, Err}
use Rattle.std.specs.IoError.{error_kind}
use Rattle.std.specs.Io.KnownBytes.{Appends}
use Rattle.std.specs.declared.io.ErrorKind.TheVariants.{BrokenPipe}
use Rattle.std.specs.declared.io.Error.{Error}

-- Written: its number is the length of the text, modulo 2^64; no text here comes near that. The code adds the number up from what the writer takes
-- of each piece. Cut short: nothing is said.
abbrev pub CountedWhole : List ℕ → Result ℕ Error → Type 0
CountedWhole text (Ok n) = n ≡ length text % 2 ^ 64
CountedWhole text (Err why) = Unit {0}

-- The same for the next piece of a text, behind so many bytes of it: the number is that of all of them.
abbrev pub CountedOn : ℕ → List ℕ → Result ℕ Error → Type 0
CountedOn before piece (Ok n) = n ≡ (before + length piece) % 2 ^ 64
CountedOn before piece (Err why) = Unit {0}

-- What a writer holds whose text ended so, where it says what it holds: what it held before, and behind that the text, or where it was cut a start
-- of the text, not all of it.
abbrev pub Puts : {A : Type 0} → Option (List ℕ) → Option (List ℕ) → List ℕ → Result A Error → Type 0
Puts old new text (Ok n) = Appends old new text
Puts old new text (Err why) = (k : ℕ) × (k < length text) × Appends old new (take k text)

-- The status s of a program whose text ended so: 141 where it was cut since nobody reads it any more, and else 0.
abbrev pub EndsWith : Result ℕ Error → ℕ → Type 0
EndsWith (Ok n) s = s ≡ 0
EndsWith (Err why) s = (error_kind why ≡ BrokenPipe → s ≡ 141) × (error_kind why ≢ BrokenPipe → s ≡ 0)
