-- What is to come from a cursor, line by line: a heading, the lines for visits, the number of the page, and what follows the page.
-- Assumes nothing.
use Rattle.std.specs.Prelude.{Option, Some, None}
use Rattle.std.proofs.Common.{◌≡◌, ℕ, zero, suc, ◌+◌, ◌/◌, ◌%◌, ◌^◌, ◌<◌, ◌≤◌, List, [], ◌∷◌, ◌++◌, length, drop, sym, refl, ap, ◌∙◌, ap₂}
use Rattle.std.proofs.Common.{append_assoc, append-nil, add-one, arith, length-drop}
use lib.Seq.{drop-nil}
use Rattle.ranges.specs.Range.{range}
use Rattle.visits.specs.declared.file_walks.FileVisit.{FileVisit}
use Rattle.visits.specs.declared.file_walks.FileWalk.{FileWalk}
use Rattle.visits.specs.FileWalk.{visits_to_come, Gives}
use Rattle.text.specs.Pieces.{join}
use Rattle.listing.specs.Listing.{refused_text}
use Rattle.sheet.specs.Sheet.{heading, blank_line, page_line, page_visits, visit_lines, page, pages, page_count, sheet_lines}
use Rattle.sheet.specs.declared.cursors.Place.TheVariants as place
use Rattle.sheet.specs.Cursor.{page_numbers, pages_from, after_page, from_place, sheet_to_come}
use Rattle.sheet.specs.Lines.{step_line, after_number}

-- ---- the lines for visits

module _ (file : List ℕ) (p q : FileWalk) where
  -- the line of a step is the first of those for the visits to come, and the others are for the visits to come after it
  visit_lines-more : (s : Option FileVisit) → Gives file p s q → (n : ℕ)
      → join (visit_lines (suc n) (visits_to_come file p)) ≡ step_line s ++ join (visit_lines n (visits_to_come file q))
  unfolding visit_lines
  visit_lines-more (Some v) g n = ap (λ (vs : List FileVisit). join (visit_lines (suc n) vs)) g
  visit_lines-more None g n =
      ap (λ (vs : List FileVisit). join (visit_lines (suc n) vs)) g.0
      ∙ ap (λ (vs : List FileVisit). blank_line ++ join (visit_lines n vs)) (sym g.1)

  drop_more : (s : Option FileVisit) → Gives file p s q → (n : ℕ) → drop (suc n) (visits_to_come file p) ≡ drop n (visits_to_come file q)
  drop_more (Some v) g n = ap (drop (suc n)) g
  drop_more None g n = ap (drop (suc n)) g.0 ∙ sym (drop-nil n) ∙ ap (drop n) (sym g.1)

-- ---- the numbers of pages

-- numbers that agree as words have the same numbers after them
pub same_numbers : (n j k : ℕ) → j % 2 ^ 32 ≡ k % 2 ^ 32 → page_numbers j n ≡ page_numbers k n
unfolding range
same_numbers zero j k e = refl
same_numbers (suc n) j k e =
    let next : suc j % 2 ^ 32 ≡ suc k % 2 ^ 32 = omega (arith, e) in
    ap₂ (λ (i : ℕ) (l : List ℕ). i ∷ l) e (same_numbers n (suc j) (suc k) next)

-- below 2^32 they are the numbers themselves
pub plain-numbers : (n k : ℕ) → k + n ≤ 2 ^ 32 → page_numbers k n ≡ range k n
unfolding range
plain-numbers zero k h = refl
plain-numbers (suc n) k h =
    let e : k % 2 ^ 32 ≡ k = omega (arith, h) in
    ap₂ (λ (i : ℕ) (l : List ℕ). i ∷ l) e (plain-numbers n (suc k) (omega (arith, h)))

-- ---- pages

join-append : (s t : List (List ℕ)) → join (s ++ t) ≡ join s ++ join t
join-append [] t = refl
join-append (l ∷ s) t = ap (λ (r : List ℕ). l ++ r) (join-append s t) ∙ sym (append_assoc l (join s) (join t))

-- a page, and what follows it
page-first : (k : ℕ) (vs : List FileVisit) (rest : List (List ℕ))
    → join (page k vs ++ rest) ≡ heading ++ (join (visit_lines page_visits vs) ++ (page_line k ++ join rest))
unfolding page
page-first k vs rest =
    let ls = visit_lines page_visits vs in
    ap (λ (s : List ℕ). heading ++ s)
    (ap join (append_assoc ls (page_line k ∷ []) rest) ∙ join-append ls (page_line k ∷ rest))

-- what follows page k, by the number of pages for the visits that are left
follows : (k : ℕ) (vs : List FileVisit) → join (pages (page_numbers (suc k) ((length vs + 47) / page_visits)) vs) ≡ after_page k vs
unfolding after_page pages_from pages range
follows k [] = refl
follows k (v ∷ vs) =
    let e : (length (v ∷ vs) + 47) / page_visits ≡ page_count (length (v ∷ vs)) = omega arith in
    ap (λ (n : ℕ). join (pages (page_numbers (suc k) n) (v ∷ vs))) e

pub pages_from_is : (k : ℕ) (vs : List FileVisit)
    → pages_from k vs ≡ heading ++ (join (visit_lines page_visits vs) ++ (page_line (k % 2 ^ 32) ++ after_page k (drop page_visits vs)))
unfolding pages_from pages range
pages_from_is k vs =
    let ws = drop page_visits vs in
    let n = (length ws + 47) / page_visits in
    let e : page_count (length vs) ≡ suc n = omega (arith, length-drop page_visits vs) in
    ap (λ (m : ℕ). join (pages (page_numbers k m) vs)) e
    ∙ page-first (k % 2 ^ 32) vs (pages (page_numbers (suc k) n) ws)
    ∙ ap (λ (s : List ℕ). heading ++ (join (visit_lines page_visits vs) ++ (page_line (k % 2 ^ 32) ++ s))) (follows k ws)

-- pages after a page whose number is a word
pub pages_from-word : (k : ℕ) (vs : List FileVisit) → pages_from (suc k % 2 ^ 32) vs ≡ pages_from (suc k) vs
unfolding pages_from
pages_from-word k vs =
    let n = page_count (length vs) in
    let e : suc k % 2 ^ 32 % 2 ^ 32 ≡ suc k % 2 ^ 32 = omega arith in
    ap (λ (ks : List ℕ). join (pages ks vs)) (same_numbers n (suc k % 2 ^ 32) (suc k) e)

-- the pages of a sheet, where their numbers are words
pub pages_from-one : (vs : List FileVisit) → page_count (length vs) < 2 ^ 32 → pages_from 1 vs ≡ join (sheet_lines vs)
unfolding pages_from sheet_lines
pages_from-one vs h =
    let n = page_count (length vs) in
    ap (λ (ks : List ℕ). join (pages ks vs)) (plain-numbers n 1 (omega (arith, h)))

-- ---- line by line from each place

pub refusal_first : (n k : ℕ) (vs : List FileVisit) → refused_text n ++ from_place place.End k vs ≡ from_place (place.Refusal n) k vs
unfolding from_place
refusal_first n k vs = append-nil (refused_text n)

pub heading-first : (k : ℕ) (vs : List FileVisit) → k < 2 ^ 32 → heading ++ from_place (place.Lines page_visits) k vs ≡ from_place place.Heading k vs
unfolding from_place
heading-first k vs h =
    let e : k ≡ k % 2 ^ 32 = omega (arith, h) in
    ap (λ (j : ℕ). heading ++ (join (visit_lines page_visits vs) ++ (page_line j ++ after_page k (drop page_visits vs)))) e
    ∙ sym (pages_from_is k vs)

pub line_first : (file : List ℕ) (p q : FileWalk) (s : Option FileVisit) → Gives file p s q → (n k : ℕ)
    → step_line s ++ from_place (place.Lines n) k (visits_to_come file q) ≡ from_place (place.Lines (suc n)) k (visits_to_come file p)
unfolding from_place
line_first file p q s g n k =
    let ws = visits_to_come file q in
    sym (append_assoc (step_line s) (join (visit_lines n ws)) (page_line k ++ after_page k (drop n ws)))
    ∙ ap₂ (λ (l : List ℕ) (vs : List FileVisit). l ++ (page_line k ++ after_page k vs)) (sym (visit_lines-more file p q s g n))
    (sym (drop_more file p q s g n))

-- after the number of a page
after_comes : (file : List ℕ) (p q : FileWalk) (s : Option FileVisit) → Gives file p s q → (k : ℕ)
    → sheet_to_come file (after_number s k p) ≡ after_page k (visits_to_come file p)
unfolding from_place after_page
after_comes file p q (Some v) g k =
    ap (pages_from ((k + 1) % 2 ^ 32)) g
    ∙ ap (λ (j : ℕ). pages_from (j % 2 ^ 32) (v ∷ visits_to_come file q)) (add-one k)
    ∙ pages_from-word k (v ∷ visits_to_come file q)
    ∙ ap (after_page k) (sym g)
after_comes file p q None g k = ap (after_page k) (sym g.0)

pub number-first : (file : List ℕ) (p q : FileWalk) (s : Option FileVisit) → Gives file p s q → (k : ℕ)
    → page_line k ++ sheet_to_come file (after_number s k p) ≡ from_place (place.Lines 0) k (visits_to_come file p)
unfolding from_place visit_lines
number-first file p q s g k = ap (λ (t : List ℕ). page_line k ++ t) (after_comes file p q s g k)

pub end_comes : (k : ℕ) (vs : List FileVisit) → from_place place.End k vs ≡ []
unfolding from_place
end_comes k vs = refl
