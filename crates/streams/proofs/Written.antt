-- A text that is written piece by piece: the bytes that were counted and those to come are as many as the text has.
-- Assumes nothing.
use Rattle.std.proofs.Common.{◌≡◌, ℕ, ◌+◌, ◌%◌, ◌^◌, ◌<◌, ◌≤◌, List, [], ◌++◌, Option, length, take, sym, ap, ◌∙◌, subst, arith, length-append}
use Rattle.std.proofs.Common.{append_assoc, append-nil, drop_of_length-le}
use Rattle.std.specs.Io.KnownBytes.{Appends}
use Rattle.std.proofs.KnownBytes.{Appends-nil, Appends-trans}
use Rattle.std.proofs.lemmas.List.{take-append-le}
use Rattle.std.proofs.Math.Seq.{take-append-add}
use Rattle.text.specs.Pieces.{Piece}

-- n bytes of a text were counted, modulo 2^64, and the rest of it is to come
pub record Written (n : ℕ) (rest text : List ℕ) : Type 0 where
  pub fits : n < 2 ^ 64
  pub adds : (n + length rest) % 2 ^ 64 ≡ length text % 2 ^ 64

pub written_none : {rest text : List ℕ} → rest ≡ text → Written 0 rest text
written_none same =
    let as_long = ap length same in
    record { fits = omega arith; adds = omega arith }

-- a writer that held a holds b: behind what it held it got the text up to the rest, which is to come
abbrev pub Got : Option (List ℕ) → Option (List ℕ) → List ℕ → List ℕ → Type 0
Got a b rest text = (p : List ℕ) × (p ++ rest ≡ text) × Appends a b p

pub got_none : {rest text : List ℕ} (a : Option (List ℕ)) → rest ≡ text → Got a a rest text
got_none a same = ([], same, Appends-nil a)

module _ {C : Type 0} {to_come : C → List ℕ} {w : ℕ} {c d : C} {piece : List ℕ} {room : ℕ} (p : Piece to_come w c d piece room) where
  -- a piece and what is to come behind it are as long as what was to come
  lengths : length piece + length (to_come d) ≡ length (to_come c)
  lengths = sym (length-append piece (to_come d)) ∙ ap length p.joins

  -- each piece leaves less to come
  pub written_less : 0 < length piece → length (to_come d) < length (to_come c)
  written_less some =
      let both = lengths in
      omega arith

  -- one piece more
  pub written-more : {n m : ℕ} {text : List ℕ} → Written n (to_come c) text → m ≡ (n + length piece) % 2 ^ 64 → Written m (to_come d) text
  written-more so_far counted =
      let both = lengths in
      let before = so_far.adds in
      record { fits = omega arith; adds = omega arith }

  -- an empty piece in a buffer with room for a line: nothing was to come
  pub written_all : {n : ℕ} {text : List ℕ} → Written n (to_come c) text → length piece ≡ 0 → w ≤ room → n ≡ length text % 2 ^ 64
  written_all so_far empty roomy =
      let none : length (to_come d) ≡ 0 = ap length (p.stops (omega arith)) in
      let both = lengths in
      let small = so_far.fits in
      let before = so_far.adds in
      omega arith

  -- the writer got one piece more
  pub got_more : (a b e : Option (List ℕ)) (text : List ℕ) → Got a b (to_come c) text → Appends b e piece → Got a e (to_come d) text
  got_more a b e text (q, joined, so_far) more =
      (q ++ piece, append_assoc q piece (to_come d) ∙ ap (λ l. q ++ l) p.joins ∙ joined, Appends-trans a b e q piece so_far more)

  -- nothing was to come: it got the text
  pub got_all : (a b : Option (List ℕ)) (text : List ℕ) → Got a b (to_come c) text → length piece ≡ 0 → w ≤ room → Appends a b text
  got_all a b text (q, joined, so_far) empty roomy =
      let last : to_come d ≡ [] = p.stops (omega arith) in
      let nothing : to_come c ≡ [] = sym p.joins ∙ ap (λ l. l ++ to_come d) (drop_of_length-le piece {i = 0} (omega arith)) ∙ last in
      subst (Appends a b) (sym (append-nil q) ∙ ap (λ l. q ++ l) (sym nothing) ∙ joined) so_far

  -- it got a start of the piece, and so of the text
  pub got_cut : (a b e : Option (List ℕ)) (text : List ℕ) → Got a b (to_come c) text → (k : ℕ) × (k < length piece) × Appends b e (take k piece)
      → (k : ℕ) × (k < length text) × Appends a e (take k text)
  got_cut a b e text (q, joined, so_far) (k, short, more) =
      let rest = to_come d in
      let whole : q ++ (piece ++ rest) ≡ text = ap (λ l. q ++ l) p.joins ∙ joined in
      let start : q ++ take k piece ≡ take (length q + k) text =
      ap (λ l. q ++ l) (sym (take-append-le k piece rest (omega arith))) ∙ sym (take-append-add q (piece ++ rest) k)
      ∙ ap (take (length q + k)) whole in
      let long = ap length whole in
      let parts = length-append q (piece ++ rest) in
      let both = length-append piece rest in
      (length q + k, omega arith, subst (Appends a e) start (Appends-trans a b e q (take k piece) so_far more))
