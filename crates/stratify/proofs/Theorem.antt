-- One term of `Theorems`: demand 3, C-14, C-15 and C-16 from the theorems of net. Assumes nothing.
use mathlib.Core.Path.{◌≡◌, refl, sym, ap, ◌∙◌, subst}
use mathlib.Core.Bool.{not}
use mathlib.Core.List.{List}
use Prim.Native.Nat.{ℕ, suc, ◌+◌, ◌-◌, ◌*◌, ◌^◌, ◌≤◌, ◌<◌, min}
use native.Mathlib.Omega.{arith}
use borrow.Author.Tests.{not-false, eqb-true}
use lib.Bits.{bit_xor}
use lib.Dec.{eqb}
use lib.ListN.{length, take}
use Rattle.ranges.specs.Unique.{Only, One}
use Rattle.ranges.specs.Bounds.{CountBounds}
use Rattle.ranges.specs.Below.{Below}
use Rattle.ranges.specs.Walk.{Walk}
use Rattle.ranges.proofs.Below.{below-take, below-drop}
use Rattle.ranges.proofs.Range.{take-each}
use Rattle.ranges.proofs.Theorem as ranges
use Rattle.digits.specs.Digits.{minus}
use Rattle.digits.proofs.Two.{one_lt_two, minus-two}
use Rattle.linear.proofs.Prime.{two}
use Rattle.net.specs.Generators.{Valid}
use Rattle.net.specs.Sequence.{Sequence, column, row, VisitIn}
use Rattle.net.specs.Scrambling.{unchanged, plain, shifted}
use Rattle.net.specs.Shape.{Shape, Passes}
use Rattle.net.specs.Check.{check}
use Rattle.net.specs.Query.{locate}
use Rattle.net.specs.Net.{Net}
use Rattle.net.specs.Answers.{LocateDecides, CheckDecides}
use Rattle.net.specs.Run.{Visit, visit, visits, run, hits}
use Rattle.net.proofs.Least.{least_index-least}
use Rattle.net.proofs.Check.{nonzero}
use Rattle.net.proofs.Query.{locate-found, locate-same}
use Rattle.net.proofs.Theorem as net
use Rattle.refusal.specs.Outcome.{accepted}
use Rattle.refusal.proofs.First.{first-accepted}
use Rattle.word.specs.Index.{index_count, last_index}
use Rattle.flips.proofs.Theorem as flips
use Rattle.plan.specs.declared.pair.Plan.{Plan}
use Rattle.plan.specs.declared.points.Shift.{Shift}
use Rattle.plan.specs.declared.points.Scramble.{Scramble}
use Rattle.plan.specs.Pair.{generators, scrambling, only_shift, sequence, largest_level, unknown_level, Level, loaded}
use Rattle.plan.specs.Lists.{visits_walked}
use Rattle.plan.proofs.Loading.{loaded-accepted}
use Rattle.plan.proofs.Lists.{filled-visits, filled-part, opened, within, steps, walk-visits, last_walk}
use Rattle.plan.proofs.Level.{level_of}
use Rattle.plan.proofs.Theorem as plan
use Rattle.stratify.specs.Answers.{of_verdict, of_location, check_outcome, query_outcome, ShiftFits, ScrambleFits, Cell}
use Rattle.stratify.specs.Strips.{plain_column, plain_row}
use Rattle.stratify.specs.Theorem.{unscrambled, VisitedOnce, Covered, RelatedToPlain, Queried, Checked, Lists, GivesRun}
use Rattle.stratify.specs.Theorem.{Counted, CountedAnywhere, StandardPair, Theorems}
use Rattle.stratify.proofs.LedBack.{lawful, undone-x, undone-y, column_before, row_before}
use Rattle.stratify.proofs.OneByOne.{by_queries}
use Rattle.stratify.proofs.Overviewed.{lengths_decide}
use Rattle.stratify.proofs.Outcomes.{query_outcome_is, check_outcome_is, verdict-accepted, verdict-not_net, verdict-refuses}
use Rattle.stratify.proofs.Outcomes.{location_accepted, location_not_net}

-- a shift alone is fit, and adds what it did before there were flips
shift_alone : (s : Shift) → ShiftFits s → ScrambleFits (only_shift s)
shift_alone s words = record { shift = words; flips = (flips.theorems).none_accepted }

unflipped : {P : Plan} → Valid (generators P) → (s : Shift) → sequence P (only_shift s) ≡ shifted (generators P) s.x s.y
unflipped = (plan.theorems).unflipped

unshifted : {P : Plan} → Valid (generators P) → sequence P unscrambled ≡ plain (generators P)
unshifted {P} valid = unflipped valid (record { x = 0; y = 0 }) ∙ (net.theorems).unshifted (generators P) one_lt_two

-- ---- 1, 2: a plan that passes

module _ {P : Plan} (valid : Valid (generators P)) {M : ℕ} (fits : M ≤ largest_level) (passes : Passes (generators P) M) where
  N : Net (generators P) M
  N = (net.theorems).net valid two M fits passes

  module _ (s : Scramble) (words : ScrambleFits s) (m a k c r : ℕ) (cell : Cell M m a k c r) where
    abbrev S : Sequence
    S = sequence P s

    one_visit : One (VisitIn S m a k c r)
    one_visit = (_, (N.stratified m a cell.size cell.wide).one_visit (scrambling s) (lawful s words.shift) k c r cell.column cell.row)

    -- the query's answer, for any level that admits the cell
    answered : (i : ℕ) → Only (VisitIn S m a k c r) i → (level : ℕ) → Level level → m ≤ level → query_outcome P s level m a k c r ≡ accepted i
    answered i only level known size =
        let own : Cell level m a k c r = record { size = size; wide = cell.wide; column = cell.column; row = cell.row; block = cell.block } in
        let odd = nonzero (generators P) M passes m a cell.size cell.wide in
        query_outcome_is P s level m a k c r known words.flips own
        ∙ ap (of_location m a) (locate-found (generators P) (scrambling s) m a k c r i odd only)

    one_hit : hits S m a c r (run S m k) ≡ 1
    one_hit = N.one_hit (scrambling s) (lawful s words.shift) m a k c r cell.size cell.wide cell.column cell.row

    -- in a list of visits that begins with the block's first and goes through the block
    hit_in : (l : List Visit) (n : ℕ) → l ≡ visits S (k * 2 ^ m) n → 2 ^ m ≤ n → hits S m a c r (take (2 ^ m) l) ≡ 1
    hit_in l n e long =
        let whole : min (2 ^ m) n ≡ 2 ^ m = omega arith in
        ap (λ (v : List Visit). hits S m a c r (take (2 ^ m) v)) e
        ∙ ap (hits S m a c r) (take-each _ (k * 2 ^ m) n (2 ^ m) ∙ ap (visits S (k * 2 ^ m)) whole) ∙ one_hit

    visited-once : VisitedOnce P s m a k c r
    visited-once = record {
      one_visit = one_visit;
      query = answered one_visit.0 one_visit.1;
      points = one_hit;
      fills = λ xs ys e. hit_in _ (length xs) (filled-visits index_count s.flips S (k * 2 ^ m) xs ys e);
      walks = λ count n w e long many. hit_in _ (min n count) (walk-visits (k * 2 ^ m) count w e n S) (omega arith);
    }

  covered : Covered P M
  covered = visited-once

  -- in base two a difference is an exclusive or
  as_xor : (m a c r u v p : ℕ) → Only (VisitIn (plain (generators P)) m a 0 (minus 2 c u) (minus 2 r v)) p
      → Only (VisitIn (plain (generators P)) m a 0 (bit_xor c u) (bit_xor r v)) p
  as_xor m a c r u v p only = rw (← minus-two c u, ← minus-two r v) only

  -- the relation is net's, of the sequence that is only shifted
  related : RelatedToPlain P M
  related s words m a k c r cell =
      let under-shift = unflipped valid s in
      let related-in = (N.stratified m a cell.size cell.wide).relation s.x s.y words.x words.y k c r in
      let (p, related) = related-in cell.column cell.row in
      let S = sequence P (only_shift s) in
      let moved : (T : Sequence) → T ≡ S → Only (VisitIn (plain (generators P)) m a 0 (minus 2 c (column T a (k * 2 ^ m)))
      (minus 2 r (row T (m - a) (k * 2 ^ m)))) p → Only (VisitIn (plain (generators P)) m a 0 (minus 2 c (column S a (k * 2 ^ m)))
      (minus 2 r (row S (m - a) (k * 2 ^ m)))) p = λ T e only. subst (λ (T : Sequence). Only (VisitIn (plain (generators P)) m a 0
      (minus 2 c (column T a (k * 2 ^ m))) (minus 2 r (row T (m - a) (k * 2 ^ m)))) p) e only in
      let there = subst (λ (T : Sequence). Only (VisitIn T m a k c r) (k * 2 ^ m + p)) (sym under-shift) related.block_visit in (
        p,
        record {
          plain_visit = as_xor m a c r (column S a (k * 2 ^ m)) (row S (m - a) (k * 2 ^ m)) p (moved _ (sym under-shift) related.plain_visit);
          block_visit = there;
          answer = answered (only_shift s) (shift_alone s words) m a k c r cell (k * 2 ^ m + p) there;
        },
      )

  -- ---- 6: counts; each way gives the visits of the range

  module _ (s : Scramble) (words : ScrambleFits s) (m a c r : ℕ) (size : m ≤ M) (wide : a ≤ m) (hc : c < 2 ^ a) (hr : r < 2 ^ (m - a))
      (start n : ℕ) (some : 1 ≤ n) where
    of_visits : CountBounds start n (2 ^ m) (hits (sequence P s) m a c r (visits (sequence P s) start n))
    of_visits = N.counts (scrambling s) (lawful s words.shift) m a c r size wide hc hr start n some

    of-list : (l : List Visit) → l ≡ visits (sequence P s) start n → CountBounds start n (2 ^ m) (hits (sequence P s) m a c r l)
    of-list l e = subst (λ (v : List Visit). CountBounds start n (2 ^ m) (hits (sequence P s) m a c r v)) (sym e) of_visits

    counts : Counted P s m a c r start n
    counts = record {
      of_visits = of_visits;
      points = of_visits;
      fills = λ first xs ys e from long. of-list _ (filled-part index_count s.flips (sequence P s) start n first xs ys e from long);
      walks = λ count steps w e all. of-list _ (walk-visits start count w e steps (sequence P s) ∙ ap (visits (sequence P s) start) all);
    }

  counted : CountedAnywhere P M
  counted s words m a c r size wide hc hr start n some _ = counts s words m a c r size wide hc hr start n some

-- ---- 3: the query

module _ {P : Plan} (valid : Valid (generators P)) {s : Scramble} (words : ScrambleFits s) {level m a k c r : ℕ} (known : Level level)
    (cell : Cell level m a k c r) where
  shape : Shape (generators P) m a
  shape = let size = cell.size in let top = known.not_above in record { valid = valid; wide = cell.wide; fits = omega arith }

  L : LocateDecides (generators P) (scrambling s) m a k c r
  L = (net.theorems).located shape two (lawful s words.shift) k c r cell.column cell.row

  is : query_outcome P s level m a k c r ≡ of_location m a (locate (generators P) (scrambling s) m a k c r)
  is = query_outcome_is P s level m a k c r known words.flips cell

  queried : Queried P s level m a k c r
  queried = record {
    answers_iff = (
      λ (i, e). ((L.found_iff i).0 ((location_accepted m a is i).0 e)).0,
      λ odd.
          let one = (((net.theorems).net_test shape two).stratified_iff.0 odd).one_visit in
          let only = one _ (lawful s words.shift) k c r cell.column cell.row in
          (_, (location_accepted m a is _).1 ((L.found_iff _).1 (odd, only))),
    );
    answer_iff = λ i. (λ e. (L.found_iff i).0 ((location_accepted m a is i).0 e), λ h. (location_accepted m a is i).1 ((L.found_iff i).1 h));
    refuses_iff = (
      λ (j, e). ((L.bad_shape_iff j).0 ((location_not_net m a is j).0 e)).0,
      λ even.
          let least = least_index-least shape two even in
          (_, (location_not_net m a is _).1 ((L.bad_shape_iff _).1 (even, least))),
    );
    refusal_iff = λ j. (λ e. (L.bad_shape_iff j).0 ((location_not_net m a is j).0 e), λ h. (location_not_net m a is j).1 ((L.bad_shape_iff j).1 h));
  }

  -- the plain query of the cell to which the scramble is undone
  led_back : query_outcome P s level m a k c r ≡ query_outcome P unscrambled level m a k (plain_column s a c) (plain_row s m a r)
  led_back =
      let shift = words.shift in
      let hc = column_before shape s shift c cell.column in
      let hr = row_before shape s shift r cell.row in
      let own : Cell level m a k (plain_column s a c) (plain_row s m a r) =
      record { size = cell.size; wide = cell.wide; column = hc; row = hr; block = cell.block } in
      is ∙ ap (of_location m a)
      ((net.theorems).led_back shape two (lawful s shift) (undone-x s shift) (undone-y s shift) k c r cell.column cell.row
      ∙ sym (locate-same (generators P) (scrambling unscrambled) unchanged (unshifted valid) m a k _ _))
      ∙ sym (query_outcome_is P unscrambled level m a k _ _ known (flips.theorems).none_accepted own)

size_zero : {P : Plan} → Valid (generators P) → {s : Scramble} → ScrambleFits s → {level : ℕ} → Level level → {k : ℕ} → k < 2 ^ 32
    → query_outcome P s level 0 0 k 0 0 ≡ accepted k
size_zero {P} valid {s} words {level} known {k} h =
    let one_cell : 0 < 2 ^ 0 = omega arith in
    let cell : Cell level 0 0 k 0 0 = record { size = omega arith; wide = omega arith; column = one_cell; row = one_cell; block = h } in
    (location_accepted 0 0 (query_outcome_is P s level 0 0 k 0 0 known words.flips cell) k).1
    ((net.theorems).size_zero valid (lawful s words.shift) k)

-- ---- 4: the check

valid-loaded : (words : List ℕ) → Below (2 ^ 32) words → length words ≡ 64 → Valid (generators (loaded words))
valid-loaded words below long =
    subst (λ (P : Plan). Valid (generators P)) (sym (loaded-accepted words long))
    (record { base = one_lt_two; X_fits = below-take (2 ^ 32) 32 words below; Y_fits = below-drop (2 ^ 32) 32 words below })

checked : (words : List ℕ) → Below (2 ^ 32) words → length words ≡ 64 → {level : ℕ} → Level level → Checked words level
checked words below long {level} known = record {
  accepted_iff = (λ e. C.passed_iff.0 ((verdict-accepted is).0 e), λ p. (verdict-accepted is).1 (C.passed_iff.1 p));
  even_iff = (λ r. C.zero_iff.0 ((verdict-refuses is).0 r), λ h. (verdict-refuses is).1 (C.zero_iff.1 h));
  crowded_iff = (λ r. C.crowded_iff.0 ((verdict-refuses is).0 r), λ h. (verdict-refuses is).1 (C.crowded_iff.1 h));
  refusal_iff = λ m a j.
      (λ e. (C.first_bad_iff m a j).0 ((verdict-not_net is m a j).0 e), λ h. (verdict-not_net is m a j).1 ((C.first_bad_iff m a j).1 h));
  refusal_even_iff = λ m a j.
      (λ e. (C.first_bad_zero_iff m a j).0 ((verdict-not_net is m a j).0 e), λ h. (verdict-not_net is m a j).1 ((C.first_bad_zero_iff m a j).1 h));
}
  where
    C : CheckDecides (generators (loaded words)) level
    C = (net.theorems).checked (valid-loaded words below long) two level known.not_above

    is : check_outcome words level ≡ of_verdict (check (generators (loaded words)) level)
    is = check_outcome_is words level long known

-- ---- 5: the lists

lists : (P : Plan) (s : Scramble) → Lists P s
lists P s = record {
  points = λ start n. refl;
  fills = filled-visits index_count s.flips (sequence P s);
  opened = opened index_count;
  steps = λ start count w e n. steps start count w e n (visit (sequence P s));
  walks = λ start count w e n. walk-visits start count w e n (sequence P s);
  last_walk = λ start count w e from n. last_walk start count w e n (sequence P s) from;
  by_hand = (ranges.theorems).walked_by_hand _ last_index;
}

gives_run : (P : Plan) (s : Scramble) (m k : ℕ) → GivesRun P s m k
gives_run P s m k = record {
  points = refl;
  fills = λ p xs ys e.
      ap (take (2 ^ m - p)) (filled-visits index_count s.flips S (k * 2 ^ m + p) xs ys e)
      ∙ ((net.theorems).runs S m k).run_from p (length xs);
  walks = λ count n w e.
      ap (λ (v : Walk). take (2 ^ m) (visits_walked S n v)) (opened index_count (k * 2 ^ m) count w e)
      ∙ ((net.theorems).walked_run S m k last_index count n (within index_count (k * 2 ^ m) count w e)).list;
}
  where
    S : Sequence
    S = sequence P s

-- ---- words that the check accepts

pub record Accepts (words : List ℕ) (M : ℕ) : Type 0 where
  pub valid : Valid (generators (loaded words))
  pub known : Level M
  pub passes : Passes (generators (loaded words)) M

accepts : (words : List ℕ) → Below (2 ^ 32) words → (M : ℕ) → check_outcome words M ≡ accepted tt → Accepts words M
accepts words below M e =
    let (one, rest) = first-accepted _ 1 _ (not (eqb (length words) 64)) e in
    let (second, last) = first-accepted _ 2 _ (unknown_level M).holds rest in
    let long = eqb-true (length words) 64 (not-false (eqb (length words) 64) one) in
    let known = level_of M second in
    record { valid = valid-loaded words below long; known = known; passes = (checked words below long known).accepted_iff.0 e }

accepted_covered : (words : List ℕ) → Below (2 ^ 32) words → (M : ℕ) → check_outcome words M ≡ accepted tt → Covered (loaded words) M
accepted_covered words below M e = let a = accepts words below M e in covered a.valid a.known.not_above a.passes

accepted_related : (words : List ℕ) → Below (2 ^ 32) words → (M : ℕ) → check_outcome words M ≡ accepted tt → RelatedToPlain (loaded words) M
accepted_related words below M e = let a = accepts words below M e in related a.valid a.known.not_above a.passes

accepted_counted : (words : List ℕ) → Below (2 ^ 32) words → (M : ℕ) → check_outcome words M ≡ accepted tt → CountedAnywhere (loaded words) M
accepted_counted words below M e = let a = accepts words below M e in counted a.valid a.known.not_above a.passes

-- ---- the standard pair

standard_pair_theorem : StandardPair
standard_pair_theorem =
    let T = (net.theorems).standard_laws one_lt_two 32 32 (omega arith) in
    record {
      x = λ c h. let e : 32 - suc c ≡ 31 - c = omega arith in T.identity c h ∙ ap (λ (n : ℕ). 2 ^ n) e;
      y = λ r c h l. T.pascal r c h l;
      valid = T.valid;
      passes = T.passes;
      covered = covered T.valid (omega arith) T.passes;
      related = related T.valid (omega arith) T.passes;
      counted = counted T.valid (omega arith) T.passes;
    }

pub theorems : Theorems
theorems = record {
  covered = covered;
  related = related;
  counted = counted;
  queried = queried;
  led_back = led_back;
  size_zero = size_zero;
  overview_lengths = lengths_decide;
  overview = by_queries;
  checked = checked;
  accepted_covered = accepted_covered;
  accepted_related = accepted_related;
  accepted_counted = accepted_counted;
  unshifted = unshifted;
  lists = lists;
  gives_run = gives_run;
  standard = standard_pair_theorem;
}
