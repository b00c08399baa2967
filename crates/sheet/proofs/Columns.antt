-- The columns of a line: what stands in them can be printed, and read back by its columns it is the text.
-- Assumes nothing.
use Rattle.std.proofs.Common.{◌≡◌, ℕ, zero, suc, ◌-◌, ◌≤◌, Bool, true, false, ◌&&◌, eqb, ◌≢◌, List, [], ◌∷◌, ◌++◌, length, take, drop, replicate}
use Rattle.std.proofs.Common.{sym, refl, ap, ◌∙◌, append_assoc, arith, length-append, drop-drop, take_at, drop_at, ne_eqb}
use mathlib.Core.Bool.{and-false}
use Rattle.ranges.specs.Each.{Each}
use Rattle.ranges.proofs.Each.{each_append, each-replicate}
use Rattle.text.specs.Ascii.{line_feed, blank}
use Rattle.text.specs.Columns.{right, aligned}
use Rattle.text.proofs.Aligned.{right-wide, aligned-wide}
use Rattle.sheet.specs.Sheet.{in_columns, across}
use Rattle.sheet.specs.ReadBack.{trim, text_at, is_blank, read_fields}
use Rattle.sheet.specs.Theorem.{Printable, SheetLine}

-- ---- one text

-- a text that does not begin with a blank
abbrev pub Solid : List ℕ → Type 0
Solid [] = Unit
Solid (c ∷ cs) = c ≢ blank

trim-blanks : (n : ℕ) (text : List ℕ) → trim (replicate n blank ++ text) ≡ trim text
unfolding trim
trim-blanks zero text = refl
trim-blanks (suc n) text = trim-blanks n text

trim_solid : (text : List ℕ) → Solid text → trim text ≡ text
unfolding trim
trim_solid [] s = refl
trim_solid (c ∷ cs) s = simp (ne_eqb c blank s)

-- the first w columns of a text that begins with another, right-aligned in them
text-at-right : (w : ℕ) (text rest : List ℕ) → length text ≤ w → Solid text → trim (take w (right w text ++ rest)) ≡ text
unfolding right
text-at-right w text rest h s =
    ap trim (take_at (right w text) rest w (right-wide w text h)) ∙ trim-blanks (w - length text) text ∙ trim_solid text s

-- and of one that begins with a column
text-at-aligned : (w : ℕ) (text rest : List ℕ) → length text ≤ w → Solid text → trim (take w (aligned w text blank ++ rest)) ≡ text
text-at-aligned w text rest h s =
    ap (λ (l : List ℕ). trim (take w l)) (append_assoc (right w text) (blank ∷ []) rest) ∙ text-at-right w text (blank ∷ rest) h s

right-printable : (w : ℕ) (text : List ℕ) → Each Printable text → Each Printable (right w text)
unfolding right
right-printable w text p =
    each_append Printable (replicate (w - length text) blank) text
    (each-replicate Printable (w - length text) blank (omega arith, omega arith)) p

-- ---- blanks

blank-append : (s t : List ℕ) → is_blank (s ++ t) ≡ (is_blank s && is_blank t)
unfolding is_blank
blank-append [] t = refl
blank-append (c ∷ s) t = go (eqb c blank) (blank-append s t)
  where
    go : (b : Bool) → is_blank (s ++ t) ≡ (is_blank s && is_blank t) → (b && is_blank (s ++ t)) ≡ ((b && is_blank s) && is_blank t)
    go true e = e
    go false e = refl

-- a byte that is no blank is seen
pub seen_first : (c : ℕ) (cs : List ℕ) → c ≢ blank → is_blank (c ∷ cs) ≡ false
unfolding is_blank
seen_first c cs h = simp (ne_eqb c blank h)

-- so is a text before others, and a text in its columns
seen_before : (s t : List ℕ) → is_blank s ≡ false → is_blank (s ++ t) ≡ false
seen_before s t h = blank-append s t ∙ ap (λ (b : Bool). b && is_blank t) h

seen_right : (w : ℕ) (text : List ℕ) → is_blank text ≡ false → is_blank (right w text) ≡ false
unfolding right
seen_right w text h =
    let blanks : List ℕ = replicate (w - length text) blank in
    blank-append blanks text ∙ ap (λ (b : Bool). is_blank blanks && b) h ∙ and-false (is_blank blanks)

-- ---- one text in all columns

module _ (text : List ℕ) (short : length text ≤ 27) where
  -- it reads back
  pub across-back : Solid text → text_at 0 27 (across text) ≡ text
  unfolding across
  across-back s = text-at-right 27 text (line_feed ∷ []) short s

  pub across-line : Each Printable text → SheetLine (across text)
  unfolding across
  across-line p = record { columns = right 27 text; wide = right-wide 27 text short; printable = right-printable 27 text p; fed = refl }

-- ---- four texts

column-printable : (w : ℕ) (text rest : List ℕ) → Each Printable text → Each Printable rest → Each Printable (aligned w text blank ++ rest)
column-printable w text rest p q =
    each_append Printable (aligned w text blank) rest
    (each_append Printable (right w text) (blank ∷ []) (right-printable w text p) ((omega arith, omega arith), tt)) q

module _ (a b c d : List ℕ) where
  -- a row without its line feed
  abbrev row_columns : List ℕ
  row_columns = aligned 4 a blank ++ (aligned 4 b blank ++ (aligned 8 c blank ++ right 8 d))

  row-fed : in_columns a b c d ≡ row_columns ++ (line_feed ∷ [])
  unfolding in_columns
  row-fed = simp append_assoc

  row-printable : Each Printable a → Each Printable b → Each Printable c → Each Printable d → Each Printable row_columns
  row-printable p q r s =
      column-printable 4 a _ p (column-printable 4 b _ q (column-printable 8 c _ r (right-printable 8 d s)))

  module _ (ha : length a ≤ 4) (hb : length b ≤ 4) (hc : length c ≤ 8) (hd : length d ≤ 8) where
    row-wide : length row_columns ≡ 27
    row-wide =
        let A = aligned 4 a blank in
        let B = aligned 4 b blank in
        let C = aligned 8 c blank in
        let D = right 8 d in
        omega (
          arith,
          aligned-wide 4 a blank ha,
          aligned-wide 4 b blank hb,
          aligned-wide 8 c blank hc,
          right-wide 8 d hd,
          length-append A (B ++ (C ++ D)),
          length-append B (C ++ D),
          length-append C D,
        )

    pub row_line : Each Printable a → Each Printable b → Each Printable c → Each Printable d → SheetLine (in_columns a b c d)
    row_line p q r s = record { columns = row_columns; wide = row-wide; printable = row-printable p q r s; fed = row-fed }

    -- where its first text is seen, so is the row
    pub row_seen : is_blank a ≡ false → is_blank (take 27 (in_columns a b c d)) ≡ false
    row_seen h =
        ap (λ (l : List ℕ). is_blank (take 27 l)) row-fed ∙ ap is_blank (take_at row_columns (line_feed ∷ []) 27 row-wide)
        ∙ seen_before (aligned 4 a blank) _ (seen_before (right 4 a) (blank ∷ []) (seen_right 4 a h))

    from_5 : drop 5 (in_columns a b c d) ≡ aligned 4 b blank ++ (aligned 8 c blank ++ aligned 8 d line_feed)
    unfolding in_columns
    from_5 = drop_at (aligned 4 a blank) _ 5 (aligned-wide 4 a blank ha)

    from_10 : drop 10 (in_columns a b c d) ≡ aligned 8 c blank ++ aligned 8 d line_feed
    from_10 = sym (drop-drop 5 5 (in_columns a b c d)) ∙ ap (drop 5) from_5 ∙ drop_at (aligned 4 b blank) _ 5 (aligned-wide 4 b blank hb)

    from_19 : drop 19 (in_columns a b c d) ≡ aligned 8 d line_feed
    from_19 = sym (drop-drop 9 10 (in_columns a b c d)) ∙ ap (drop 9) from_10 ∙ drop_at (aligned 8 c blank) _ 9 (aligned-wide 8 c blank hc)

    module _ (sa : Solid a) (sb : Solid b) (sc : Solid c) (sd : Solid d) where
      field_1 : text_at 0 4 (in_columns a b c d) ≡ a
      unfolding in_columns
      field_1 = text-at-aligned 4 a _ ha sa

      field_2 : text_at 5 4 (in_columns a b c d) ≡ b
      field_2 = ap (λ (l : List ℕ). trim (take 4 l)) from_5 ∙ text-at-aligned 4 b _ hb sb

      field_3 : text_at 10 8 (in_columns a b c d) ≡ c
      field_3 = ap (λ (l : List ℕ). trim (take 8 l)) from_10 ∙ text-at-aligned 8 c _ hc sc

      field_4 : text_at 19 8 (in_columns a b c d) ≡ d
      field_4 = ap (λ (l : List ℕ). trim (take 8 l)) from_19 ∙ text-at-right 8 d (line_feed ∷ []) hd sd

      -- the four fields of a row
      pub fields_back : read_fields (in_columns a b c d) ≡ a ++ (blank ∷ (b ++ (blank ∷ (c ++ (blank ∷ (d ++ (line_feed ∷ [])))))))
      fields_back = simp (field_1, field_2, field_3, field_4)
