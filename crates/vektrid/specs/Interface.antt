-- The number of the C interface.
use Rattle.std.specs.Prelude.{ℕ}

-- raised by hand with the header's VEKTRID_ABI, whose comment says when; tests hold the two together
abbrev pub interface_number : ℕ
interface_number = 5
