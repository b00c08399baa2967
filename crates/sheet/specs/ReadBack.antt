-- A sheet read by its columns alone, into the text of a listing: for any bytes, without a look at the visits.
use Rattle.std.specs.Prelude.{ℕ, zero, suc, ◌/◌, Bool, true, cond, ◌&&◌, List, [], ◌∷◌, ◌++◌, map, length, take, drop, ◌==◌}
use Rattle.text.specs.Ascii.{line_feed, blank}
use Rattle.text.specs.Pieces.{join}
use Rattle.listing.specs.Listing.{header}

-- ---- cutting

-- the first n stretches of w elements each
unfoldable pub cut : {A : Type 0} → ℕ → ℕ → List A → List (List A)
cut w zero s = []
cut w (suc n) s = take w s ∷ cut w n (drop w s)

-- all whole stretches of w elements
abbrev pub stretches : {A : Type 0} → ℕ → List A → List (List A)
stretches w s = cut w (length s / w) s

-- ---- a line

-- a text without the blanks before it
unfoldable pub trim : List ℕ → List ℕ
trim [] = []
trim (c ∷ cs) = cond (c == blank) (trim cs) (c ∷ cs)

-- w columns of a line, from a column on, without the blanks before their text
abbrev pub text_at : ℕ → ℕ → List ℕ → List ℕ
text_at from w line = trim (take w (drop from line))

-- blanks only
unfoldable pub is_blank : List ℕ → Bool
is_blank [] = true
is_blank (c ∷ cs) = c == blank && is_blank cs

-- the four fields of a line, a space between and a line feed behind
abbrev pub read_fields : List ℕ → List ℕ
read_fields l = text_at 0 4 l ++ (blank ∷ (text_at 5 4 l ++ (blank ∷ (text_at 10 8 l ++ (blank ∷ (text_at 19 8 l ++ (line_feed ∷ [])))))))

-- a line whose 27 columns are blank is dropped
unfoldable pub read_line : List ℕ → List ℕ
read_line l = cond (is_blank (take 27 l)) [] (read_fields l)

-- ---- pages

-- a page without its first and its last line
unfoldable pub read_page : List (List ℕ) → List ℕ
read_page page = join (map read_line (take 48 (drop 1 page)))

-- lines of 28 bytes, pages of 50 lines, and the listing's header in front
unfoldable pub read_back : List ℕ → List ℕ
read_back text = header ++ join (map read_page (stretches 50 (stretches 28 text)))
