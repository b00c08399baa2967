-- The pages of a sheet: how many there are, their lines and numbers, and that cut into lines and pages again they read back as the lines of
-- the listing.
-- Assumes nothing.
use Rattle.std.proofs.Common.{◌≡◌, ℕ, zero, suc, ◌+◌, ◌*◌, ◌/◌, ◌<◌, ◌≤◌, List, [], ◌∷◌, ◌++◌, map, length, take, drop, sym, refl, ap, ◌∙◌, ap₂}
use Rattle.std.proofs.Common.{append_assoc, le_of_suc-le-suc, not-suc-le-zero, zero-add, arith, length-append, length-drop, take-append-drop}
use Rattle.std.proofs.Common.{drop-drop, take_at, drop_at}
use lib.ListN.{length-map}
use lib.Seq.{take-nil}
use Rattle.ranges.specs.Range.{range}
use Rattle.ranges.specs.Each.{Each}
use Rattle.ranges.proofs.Range.{length-each}
use Rattle.ranges.proofs.Each.{each_append, each-drop}
use Rattle.visits.specs.declared.file_walks.FileVisit.{FileVisit}
use Rattle.text.specs.Ascii.{line_feed}
use Rattle.text.specs.Pieces.{join}
use Rattle.listing.specs.Listing.{line, lines}
use Rattle.listing.proofs.Putting.{lines_none, lines_more}
use Rattle.sheet.specs.Sheet.{page_line, page_visits, visit_lines, page, pages, page_count, sheet_lines}
use Rattle.sheet.specs.ReadBack.{cut, stretches, read_line, read_page}
use Rattle.sheet.specs.Theorem.{Narrow, SheetLine, Fewest}
use Rattle.sheet.proofs.Lines.{heading_is_line, blank_is_line, page-number_is_line, visit_is_line, visit-back, blank-back}

-- ---- the number of pages

-- the pages of a sheet hold all its visits
enough : (n : ℕ) → n ≤ page_count n * page_visits
enough n = omega arith

pub page_count-fewest : (n : ℕ) → Fewest n (page_count n)
page_count-fewest n = record { some = omega arith; enough = enough n; fewest = λ h. omega (arith, h) }

-- ---- a page

visit_lines-long : (n : ℕ) (vs : List FileVisit) → length (visit_lines n vs) ≡ n
unfolding visit_lines
visit_lines-long zero vs = refl
visit_lines-long (suc n) [] = ap suc (visit_lines-long n [])
visit_lines-long (suc n) (v ∷ vs) = ap suc (visit_lines-long n vs)

visit_lines-each : (n : ℕ) (vs : List FileVisit) → Each Narrow vs → Each SheetLine (visit_lines n vs)
unfolding visit_lines
visit_lines-each zero vs h = tt
visit_lines-each (suc n) [] h = (blank_is_line, visit_lines-each n [] tt)
visit_lines-each (suc n) (v ∷ vs) h = (visit_is_line v h.0, visit_lines-each n vs h.1)

page-long : (k : ℕ) (vs : List FileVisit) → length (page k vs) ≡ 50
unfolding page
page-long k vs = omega (arith, length-append (visit_lines page_visits vs) (page_line k ∷ []), visit_lines-long page_visits vs)

page-each : (k : ℕ) (vs : List FileVisit) → Each Narrow vs → Each SheetLine (page k vs)
unfolding page
page-each k vs h =
    let ls = visit_lines page_visits vs in
    (heading_is_line, each_append SheetLine ls (page_line k ∷ []) (visit_lines-each page_visits vs h) (page-number_is_line k, tt))

visit_lines-back : (n : ℕ) (vs : List FileVisit) → Each Narrow vs → join (map read_line (visit_lines n vs)) ≡ lines (take n vs)
unfolding visit_lines
visit_lines-back zero vs h = sym lines_none
visit_lines-back (suc n) [] h =
    ap₂ (λ (s t : List ℕ). s ++ t) blank-back (visit_lines-back n [] tt) ∙ ap lines (take-nil n)
visit_lines-back (suc n) (v ∷ vs) h =
    ap₂ (λ (s t : List ℕ). s ++ t) (visit-back v h.0) (visit_lines-back n vs h.1) ∙ sym (lines_more v (take n vs))

page-back : (k : ℕ) (vs : List FileVisit) → Each Narrow vs → read_page (page k vs) ≡ lines (take page_visits vs)
unfolding read_page page
page-back k vs h =
    ap (λ (ls : List (List ℕ)). join (map read_line ls))
    (take_at (visit_lines page_visits vs) (page_line k ∷ []) page_visits (visit_lines-long page_visits vs))
    ∙ visit_lines-back page_visits vs h

-- ---- pages

pages-long : (ks : List ℕ) (vs : List FileVisit) → length (pages ks vs) ≡ length ks * 50
unfolding pages
pages-long [] vs = refl
pages-long (k ∷ ks) vs =
    let rest = drop page_visits vs in
    omega (arith, length-append (page k vs) (pages ks rest), page-long k vs, pages-long ks rest)

pages-each : (ks : List ℕ) (vs : List FileVisit) → Each Narrow vs → Each SheetLine (pages ks vs)
unfolding pages
pages-each [] vs h = tt
pages-each (k ∷ ks) vs h =
    let rest = drop page_visits vs in
    each_append SheetLine (page k vs) (pages ks rest) (page-each k vs h) (pages-each ks rest (each-drop Narrow page_visits vs h))

-- page p of those with the numbers from k on
pages-at : (n k p : ℕ) (vs : List FileVisit) → p < n
    → take 50 (drop (p * 50) (pages (range k n) vs)) ≡ page (p + k) (drop (p * page_visits) vs)
unfolding pages range
pages-at zero k p vs h = absurd (not-suc-le-zero h)
pages-at (suc n) k zero vs h =
    take_at (page k vs) (pages (range (suc k) n) (drop page_visits vs)) 50 (page-long k vs) ∙ ap (λ (j : ℕ). page j vs) (sym (zero-add k))
pages-at (suc n) k (suc p) vs h =
    let rest = pages (range (suc k) n) (drop page_visits vs) in
    let a : suc p * 50 ≡ 50 + p * 50 = omega arith in
    let b : page_visits + p * page_visits ≡ suc p * page_visits = omega arith in
    let c : p + suc k ≡ suc p + k = omega arith in
    ap (λ (j : ℕ). take 50 (drop j (page k vs ++ rest))) a
    ∙ ap (take 50) (sym (drop-drop (p * 50) 50 (page k vs ++ rest)) ∙ ap (drop (p * 50)) (drop_at (page k vs) rest 50 (page-long k vs)))
    ∙ pages-at n (suc k) p (drop page_visits vs) (le_of_suc-le-suc h)
    ∙ ap₂ page c (drop-drop (p * page_visits) page_visits vs ∙ ap (λ (j : ℕ). drop j vs) b)

-- ---- lists of equal lengths, joined and cut again

cut-none : {A : Type 0} (w : ℕ) (s : List A) → cut w 0 s ≡ []
unfolding cut
cut-none w s = refl

cut-first : {A : Type 0} (w n : ℕ) (s t : List A) → length s ≡ w → cut w (suc n) (s ++ t) ≡ s ∷ cut w n t
unfolding cut
cut-first {A} w n s t h = ap₂ (λ (p q : List A). p ∷ cut w n q) (take_at s t w h) (drop_at s t w h)

line-long : (l : List ℕ) → SheetLine l → length l ≡ 28
line-long l h = let wide = h.wide in ap length h.fed ∙ length-append h.columns (line_feed ∷ []) ∙ omega (arith, wide)

join-long : (ls : List (List ℕ)) → Each SheetLine ls → length (join ls) ≡ length ls * 28
join-long [] h = refl
join-long (l ∷ ls) h = omega (arith, length-append l (join ls), line-long l h.0, join-long ls h.1)

cut-lines : (ls : List (List ℕ)) → Each SheetLine ls → cut 28 (length ls) (join ls) ≡ ls
cut-lines [] h = cut-none 28 []
cut-lines (l ∷ ls) h = cut-first 28 (length ls) l (join ls) (line-long l h.0) ∙ ap (λ (r : List (List ℕ)). l ∷ r) (cut-lines ls h.1)

-- the lines of a text
pub lines_again : (ls : List (List ℕ)) → Each SheetLine ls → stretches 28 (join ls) ≡ ls
lines_again ls h =
    let e : length (join ls) / 28 ≡ length ls = omega (arith, join-long ls h) in
    ap (λ (n : ℕ). cut 28 n (join ls)) e ∙ cut-lines ls h

-- ---- pages read back

lines-append : (s t : List FileVisit) → lines (s ++ t) ≡ lines s ++ lines t
unfolding lines
lines-append [] t = refl
lines-append (v ∷ s) t = ap (λ (l : List ℕ). line v ++ l) (lines-append s t) ∙ sym (append_assoc (line v) (lines s) (lines t))

none_left : (vs : List FileVisit) → length vs ≤ 0 → vs ≡ []
none_left [] h = refl
none_left (v ∷ vs) h = absurd (omega arith)

pages-back : (ks : List ℕ) (vs : List FileVisit) → Each Narrow vs → length vs ≤ length ks * page_visits
    → join (map read_page (cut 50 (length ks) (pages ks vs))) ≡ lines vs
unfolding pages
pages-back [] vs h l =
    ap (λ (ps : List (List (List ℕ))). join (map read_page ps)) (cut-none 50 []) ∙ sym lines_none ∙ ap lines (sym (none_left vs (omega arith)))
pages-back (k ∷ ks) vs h l =
    let rest = drop page_visits vs in
    let few : length rest ≤ length ks * page_visits = omega (arith, length-drop page_visits vs) in
    ap (λ (ps : List (List (List ℕ))). join (map read_page ps)) (cut-first 50 (length ks) (page k vs) (pages ks rest) (page-long k vs))
    ∙ ap₂ (λ (s t : List ℕ). s ++ t) (page-back k vs h) (pages-back ks rest (each-drop Narrow page_visits vs h) few)
    ∙ sym (lines-append (take page_visits vs) rest)
    ∙ ap lines (take-append-drop page_visits vs)

-- ---- a sheet

module _ (vs : List FileVisit) where
  -- the page after p pages has the number p + 1
  pub sheet-page : (p : ℕ) → p < page_count (length vs) → take 50 (drop (p * 50) (sheet_lines vs)) ≡ page (p + 1) (drop (p * page_visits) vs)
  unfolding sheet_lines
  sheet-page p h = pages-at (page_count (length vs)) 1 p vs h

  abbrev sheet_numbers : List ℕ
  sheet_numbers = range 1 (page_count (length vs))

  sheet_numbers-long : length sheet_numbers ≡ page_count (length vs)
  sheet_numbers-long = sym (length-map sheet_numbers (λ i. i)) ∙ length-each (λ i. i) 1 (page_count (length vs))

  pub sheet-long : length (sheet_lines vs) ≡ page_count (length vs) * 50
  unfolding sheet_lines
  sheet-long = pages-long sheet_numbers vs ∙ ap (λ (n : ℕ). n * 50) sheet_numbers-long

  module _ (narrow : Each Narrow vs) where
    pub sheet-each : Each SheetLine (sheet_lines vs)
    unfolding sheet_lines
    sheet-each = pages-each sheet_numbers vs narrow

    pub sheet-bytes : length (join (sheet_lines vs)) ≡ page_count (length vs) * 1400
    sheet-bytes = omega (arith, join-long (sheet_lines vs) sheet-each, sheet-long)

    pub sheet-back : join (map read_page (stretches 50 (sheet_lines vs))) ≡ lines vs
    unfolding sheet_lines
    sheet-back =
        let e : length (pages sheet_numbers vs) / 50 ≡ length sheet_numbers = omega (arith, pages-long sheet_numbers vs) in
        let room : length vs ≤ length sheet_numbers * page_visits = omega (arith, sheet_numbers-long, enough (length vs)) in
        ap (λ (m : ℕ). join (map read_page (cut 50 m (pages sheet_numbers vs)))) e ∙ pages-back sheet_numbers vs narrow room
