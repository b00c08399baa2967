-- Files whose record 0 has zero for a field are judged as 01 has it: the field reads as 0 by 0, which every region within its limits takes, and
-- of the bytes 8 to 31 only the last 16 can differ from zero.
-- Assumes nothing.
use mathlib.Core.Path.{◌≡◌, refl, sym, ap, ap₂, ◌∙◌}
use mathlib.Core.Bool.{Bool, true, not, cond}
use mathlib.Core.List.{List, [], ◌∷◌}
use Prim.Native.Nat.{ℕ, zero, suc, ◌+◌, ◌<◌}
use native.Mathlib.Omega.{arith}
use lib.Dec.{eqb, lit<}
use lib.ListN.{get_or}
use Rattle.ranges.proofs.Tests.{both_hold}
use Rattle.refusal.specs.Outcome.{Outcome, accepted, Test, first, granted}
use Rattle.refusal.proofs.First.{first-append}
use Rattle.plan.specs.Pair.{unknown_level}
use Rattle.stage.specs.declared.regions.Field.{Field}
use Rattle.stage.specs.Region.{outside, position_tests}
use Rattle.stage.proofs.Fit.{tests-least}
use Rattle.region_file.specs.declared.records.Record.{Record}
use Rattle.region_file.specs.declared.chains.Link.{Link}
use Rattle.region_file.specs.Records.{word_at, record_at, first_record, file_level, reader_field, zeros, most_records}
use Rattle.region_file.specs.Chain.{first_link, no_link}
use Rattle.region_file.specs.Judge.{
  not_whole,
  head_tests,
  too_many,
  no_further_tests,
  record_tests,
  listing_tests,
  link_tests,
  missing,
  returning,
  nowhere,
  also,
  chain_outcome,
  judge_outcome,
  chain_stop,
  judge_stop,
}
use Rattle.region_file.specs.Base.{base_head_tests, base_record_tests, base_judge_outcome, base_judge_stop}
use Rattle.region_file.specs.Theorem.{AsBefore}
use Rattle.region_file.proofs.Zeros.{zero_byte}

-- ---- bytes that are zero

-- after bytes that are zero the others decide
zeros-from : (file : List ℕ) (m n at : ℕ) → zeros file at m ≡ true → zeros file at (m + n) ≡ zeros file (at + m) n
unfolding zeros
zeros-from file zero n at h =
    let same : at ≡ at + zero = omega arith in
    let all : zero + n ≡ n = omega arith in
    ap (zeros file at) all ∙ ap (λ (k : ℕ). zeros file k n) same
zeros-from file (suc m) n at h =
    let both = both_hold (eqb (get_or file at 0) 0) (zeros file (at + 1) m) h in
    let more = zeros-from file m n (at + 1) both.1 in
    let next : at + 1 + m ≡ at + suc m = omega arith in
    let one : suc m + n ≡ suc (m + n) = omega arith in
    ap (zeros file at) one ∙ simp both.0 (more ∙ ap (λ (k : ℕ). zeros file k n) next)

-- and words of them are zero
pub no_field : (file : List ℕ) → zeros file 8 8 ≡ true → reader_field file ≡ record { width = 0; height = 0 }
unfolding reader_field word_at
no_field file h =
    let b : (k : ℕ) → k < 8 → get_or file (8 + k) 0 ≡ 0 = λ k less. zero_byte file 8 8 k h less in
    let wide : word_at file 8 ≡ 0 = omega (arith, b 0 (lit< tt), b 1 (lit< tt), b 2 (lit< tt), b 3 (lit< tt)) in
    let high : word_at file 12 ≡ 0 = omega (arith, b 4 (lit< tt), b 5 (lit< tt), b 6 (lit< tt), b 7 (lit< tt)) in
    ap₂ (λ (w t : ℕ). record { width = w; height = t }) wide high

-- ---- chains judged by lists of tests that come to the same

module _ (tests others : Record → List Test) (file : List ℕ)
    (alike : (r : Record) (after : Outcome Unit) → first (tests r) after ≡ first (others r) after) where
  links_alike : (seen : Bool) (n : ℕ) (after : Outcome Unit)
      → first (link_tests tests file seen n) after ≡ first (link_tests others file seen n) after
  links_alike seen n after =
      let own = missing file n ∷ returning seen ∷ [] in
      first-append own (tests (record_at file n)) after
      ∙ ap (first own) (alike (record_at file n) after)
      ∙ sym (first-append own (others (record_at file n)) after)

  chains_alike : (links : ℕ) (v : ℕ → Bool) (n : ℕ) → chain_outcome tests file links v n ≡ chain_outcome others file links v n
  unfolding chain_outcome
  chains_alike zero v n = refl
  chains_alike (suc links) v n =
      let next = (record_at file n).next in
      ap (λ (o : Outcome Unit). cond (eqb n 0) (accepted tt) o)
      (links_alike (v n) n (chain_outcome tests file links (also n v) next)
      ∙ ap (first (link_tests others file (v n) n)) (chains_alike links (also n v) next))

  stops_alike : (links : ℕ) (v : ℕ → Bool) (at : Link) → chain_stop tests file links v at ≡ chain_stop others file links v at
  unfolding chain_stop
  stops_alike zero v at = refl
  stops_alike (suc links) v at =
      let n = at.named in
      ap (λ (l : Link). cond (eqb n 0) at l)
      (ap₂ (λ (o : Outcome Unit) (l : Link). granted o l at) (links_alike (v n) n (accepted tt)) (stops_alike links (also n v) _))

-- ---- the whole file

module _ (file : List ℕ) (h : zeros file 8 8 ≡ true) where
  heads : head_tests file ≡ base_head_tests file
  heads =
      ap (λ (z : Bool). not_whole file ∷ unknown_level (file_level file) ∷ record { number = 12; holds = not z } ∷ [])
      (sym (zeros-from file 8 16 8 h))

  own_alike : (r : Record) (after : Outcome Unit) → first (listing_tests file r) after ≡ first (base_record_tests r) after
  own_alike r after =
      ap (λ (f : Field). first (record_tests no_further_tests f r) after) (no_field file h)
      ∙ first-append (position_tests none r.region) (too_many r ∷ []) after
      ∙ tests-least (first (too_many r ∷ []) after) none r.region (omega arith) (omega arith)
      ∙ sym (first-append (outside r.region ∷ []) (too_many r ∷ []) after)
    where
      none : Field
      none = record { width = 0; height = 0 }

pub as_before : AsBefore
unfolding judge_outcome judge_stop base_judge_outcome base_judge_stop
as_before file h = (
  ap₂ (λ (ts : List Test) (o : Outcome Unit). first ts o) (heads file h)
      (chains_alike (listing_tests file) base_record_tests file (own_alike file h) most_records nowhere (first_record file)),
  ap₂ (λ (ts : List Test) (l : Link). granted (first ts (accepted tt)) l no_link) (heads file h)
      (stops_alike (listing_tests file) base_record_tests file (own_alike file h) most_records nowhere (first_link file)),
)
