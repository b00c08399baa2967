-- What a fill answers and leaves. Assumes nothing.
use Rattle.std.specs.Prelude.{Result, Ok, Err}
use mathlib.Core.Path.{◌≡◌, sym, ap, ◌∙◌}
use mathlib.Core.Bool.{true, false, not}
use mathlib.Core.Logic.{◌≢◌}
use mathlib.Core.List.{List, [], ◌∷◌, map}
use Prim.Native.Nat.{ℕ, ◌^◌, ◌<◌}
use borrow.Author.Tests.{eq-eqb, ne_eqb}
use lib.ListN.{length}
use Rattle.ranges.specs.Range.{range}
use Rattle.ranges.specs.Below.{Below}
use Rattle.digits.proofs.Two.{one_lt_two}
use Rattle.net.specs.Generators.{product}
use Rattle.net.specs.Sequence.{Sequence}
use Rattle.net.specs.Scrambling.{coordinate}
use Rattle.net.proofs.Product.{product_lt}
use Rattle.refusal.specs.Outcome.{Outcome, accepted, refused, first}
use Rattle.refusal.specs.Refusal.{of_refusal, of_judgement}
use Rattle.refusal.specs.declared.Refusal.{Refusal}
use Rattle.refusal.proofs.First.{first-none, first-refuses, first_passes, first-append, granted-accepted, granted-refused}
use Rattle.word.specs.Index.{goes_past}
use Rattle.products.specs.Products.{product_added, product_masked}
use Rattle.flips.specs.declared.sets.Flips.{Flips}
use Rattle.flips.specs.Flips.{NoneSet}
use Rattle.flips.specs.Scramble.{scramble_word, mask}
use Rattle.flips.specs.Load.{flips_tests, flips_outcome}
use Rattle.flips.proofs.Scrambled.{by_mask, shift-left}
use Rattle.plan.specs.Range.{past_last}
use Rattle.plan.specs.declared.points.Scramble.{Scramble}
use Rattle.plan.specs.Fill.{Buffers, lengths_differ, fill_outcome, filled}
use Rattle.plan.proofs.Loading.{lent_stops, lent_passes}

module _ (n : ℕ) (f : Flips) (start : ℕ) (xs ys : List ℕ) where
  -- the tests after those of the flips
  abbrev later : Outcome Unit
  later = first (lengths_differ xs ys ∷ past_last n start (length xs) ∷ []) (accepted tt)

  flips-first : fill_outcome n f start xs ys ≡ first (flips_tests f) later
  flips-first = first-append (flips_tests f) (lengths_differ xs ys ∷ past_last n start (length xs) ∷ []) (accepted tt)

  -- where the flips are not refused, the other tests decide
  past_flips : first (flips_tests f) later ≡ later → length xs ≡ length ys
      → fill_outcome n f start xs ys ≡ first (past_last n start (length xs) ∷ []) (accepted tt)
  past_flips passed e = flips-first ∙ passed ∙ first_passes (accepted tt) 8 _ (ap not (eq-eqb (length xs) (length ys) e))

  -- what a refused fill leaves, and what another one writes
  module _ (S : Sequence) {k : ℕ} {vs : List ℕ} where
    pub leaves : refused k vs ≡ fill_outcome n f start xs ys → filled n f S start xs ys ≡ record { x = xs; y = ys }
    leaves e = granted-refused _ _ (sym e)

  pub written : (S : Sequence) → accepted tt ≡ fill_outcome n f start xs ys
      → filled n f S start xs ys ≡ record { x = map S.x (range start (length xs)); y = map S.y (range start (length ys)) }
  written S e = granted-accepted _ _ (sym e)

-- by what judging the scramble has come to
module _ (n : ℕ) (s : Scramble) (start : ℕ) (xs ys : List ℕ) (r : Result Unit Refusal) (is : of_judgement r ≡ flips_outcome s.flips) where
  pub fill_stops : (why : Refusal) → r ≡ Err why → of_refusal why ≡ fill_outcome n s.flips start xs ys
  fill_stops why was = lent_stops s r is why was (later n s.flips start xs ys) ∙ sym (flips-first n s.flips start xs ys)

  module _ (was : r ≡ Ok tt) where
    passed : first (flips_tests s.flips) (later n s.flips start xs ys) ≡ later n s.flips start xs ys
    passed = lent_passes s r is was _

    pub refuses_lengths : length xs ≢ length ys → refused 8 [] ≡ fill_outcome n s.flips start xs ys
    refuses_lengths ne =
        sym (flips-first n s.flips start xs ys ∙ passed ∙ first-refuses (accepted tt) 8 _ (ap not (ne_eqb (length xs) (length ys) ne)))

    pub refuses_range : length xs ≡ length ys → goes_past n start (length xs) ≡ true → refused 9 [] ≡ fill_outcome n s.flips start xs ys
    refuses_range e h = sym (past_flips n s.flips start xs ys passed e ∙ first-refuses (accepted tt) 9 [] h)

    pub accepts : length xs ≡ length ys → goes_past n start (length xs) ≡ false → accepted tt ≡ fill_outcome n s.flips start xs ys
    accepts e h = sym (past_flips n s.flips start xs ys passed e ∙ first_passes (accepted tt) 9 [] h ∙ first-none (accepted tt))

-- ---- one axis

module _ (C flips : List ℕ) (s : ℕ) (words : Below (2 ^ 32) C) (start n : ℕ) where
  product-fits : (i : ℕ) → product 2 C i < 2 ^ 32
  product-fits i = product_lt one_lt_two 32 C i words

  -- without flips the shift is added to every product
  pub axis-shifted : NoneSet flips → map (product_added C s) (range start n) ≡ map (coordinate 2 C (scramble_word flips s)) (range start n)
  axis-shifted none = λ i. map (λ k. sym (shift-left flips s none (product 2 C k) (product-fits k)) i) (range start n)

  -- and else the mask that the flips and the shift make for its top byte
  pub axis-flipped : (masks : List ℕ) → masks ≡ map (mask flips s) (range 0 256)
      → map (product_masked 8 masks C) (range start n) ≡ map (coordinate 2 C (scramble_word flips s)) (range start n)
  axis-flipped masks e =
      ap (λ (l : List ℕ). map (product_masked 8 l C) (range start n)) e
      ∙ (λ i. map (λ k. by_mask flips s (product 2 C k) (product-fits k) i) (range start n))
