-- What the check and the query answer.
use Rattle.std.specs.Prelude.{◌≡◌, ◌||◌, List, [], ◌∷◌, ℕ, ◌-◌, ◌^◌, ◌≤◌, ◌<◌, leb, ltb}
use Rattle.net.specs.Check.{Verdict, passed, first_bad, check}
use Rattle.net.specs.Query.{Location, found, bad_shape, locate}
use Rattle.refusal.specs.Outcome.{Outcome, accepted, not_net, Test, first}
use Rattle.word.specs.Index.{index_bits}
use Rattle.flips.specs.declared.sets.Flips.{Flips}
use Rattle.flips.specs.Load.{not_flips, unused_set, flips_outcome}
use Rattle.plan.specs.declared.pair.Plan.{Plan}
use Rattle.plan.specs.declared.points.Shift.{Shift}
use Rattle.plan.specs.declared.points.Scramble.{Scramble}
use Rattle.plan.specs.Pair.{generators, scrambling, loaded, not_a_pair, unknown_level}

-- ---- the check

-- passed, or 3 with the first bad shape and its j
abbrev pub of_verdict : Verdict → Outcome Unit
of_verdict passed = accepted tt
of_verdict (first_bad m a j) = not_net m a j

-- what the check comes to: refused under 1, 2 or 3, in this order
abbrev pub check_outcome : List ℕ → ℕ → Outcome Unit
check_outcome words level = first (not_a_pair words ∷ unknown_level level ∷ []) (of_verdict (check (generators (loaded words)) level))

-- ---- the query, of column c and row r of the shape (m, a) in block k; its tests in base b with indexes of w digits

-- 4: m above the level
abbrev pub above_level : ℕ → ℕ → Test
above_level level m = record { number = 4; holds = ltb level m }

-- 5: a above m
abbrev pub not_a_shape : ℕ → ℕ → Test
not_a_shape m a = record { number = 5; holds = ltb m a }

-- 6: column or row outside the shape
abbrev pub not_a_cell : (b m a c r : ℕ) → Test
not_a_cell b m a c r = record { number = 6; holds = leb (b ^ a) c || leb (b ^ (m - a)) r }

-- 7: block past the last
abbrev pub not_a_block : (b w m k : ℕ) → Test
not_a_block b w m k = record { number = 7; holds = leb (b ^ (w - m)) k }

-- all but 3
abbrev pub query_tests : Flips → (level m a k c r : ℕ) → List Test
query_tests f level m a k c r =
    unknown_level level ∷ not_flips f ∷ unused_set f ∷ above_level level m ∷ not_a_shape m a ∷ not_a_cell 2 m a c r
    ∷ not_a_block 2 index_bits m k ∷ []

-- found, or 3 with the shape that was asked for and its j
abbrev pub of_location : ℕ → ℕ → Location → Outcome ℕ
of_location m a (found i) = accepted i
of_location m a (bad_shape j) = not_net m a j

-- what the query comes to: refused under 2, 17, 18, 4, 5, 6, 7 or 3, in this order
abbrev pub query_outcome : Plan → Scramble → (level m a k c r : ℕ) → Outcome ℕ
query_outcome P s level m a k c r =
    first (query_tests s.flips level m a k c r) (of_location m a (locate (generators P) (scrambling s) m a k c r))

-- ---- what the refusals let through

-- 4, 5, 6, 7: column c and row r of the shape (m, a), of a size within M, in block k
pub record Cell (M m a k c r : ℕ) : Type 0 where
  pub size : m ≤ M
  pub wide : a ≤ m
  pub column : c < 2 ^ a
  pub row : r < 2 ^ (m - a)
  pub block : k < 2 ^ (index_bits - m)

-- a shift of words, as the code's is
pub record ShiftFits (s : Shift) : Type 0 where
  pub x : s.x < 2 ^ 32
  pub y : s.y < 2 ^ 32

-- 17, 18: and with it flips of 32 bytes an axis without bit 255
pub record ScrambleFits (s : Scramble) : Type 0 where
  pub shift : ShiftFits s.shift
  pub flips : flips_outcome s.flips ≡ accepted tt
