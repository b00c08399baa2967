-- The chain of a file: record 0 names its first record, and each record names the next. Number 0 ends it.
use Rattle.std.specs.Prelude.{Bool, false, cond, ◌||◌, List, [], ◌∷◌, ℕ, zero, suc, eqb}
use Rattle.region_file.specs.declared.chains.Link.{Link}
use Rattle.region_file.specs.Records.{record_at, first_record, most_records}

-- the numbers of the chain that begins with n: the first `links` of them, or all where it ends before
unfoldable pub numbers : List ℕ → ℕ → ℕ → List ℕ
numbers file zero n = []
numbers file (suc links) n = cond (eqb n 0) [] (n ∷ numbers file links (record_at file n).next)

-- the numbers of a file's chain. A file that is accepted has no more than most_records (`Theorem`); of other bytes, whose chain may
-- return or be longer, these are the first ones.
abbrev pub chain_numbers : List ℕ → List ℕ
chain_numbers file = numbers file most_records (first_record file)

-- n is one of the list
unfoldable pub member : ℕ → List ℕ → Bool
member n [] = false
member n (k ∷ ks) = eqb k n || member n ks

-- record n is on the chain of the file
abbrev pub on_chain : List ℕ → ℕ → Bool
on_chain file n = member n (chain_numbers file)

-- the link that record 0 holds: it names the first record of the chain
abbrev pub first_link : List ℕ → Link
first_link file = record { holder = 0; named = first_record file }

-- the link that record n holds: it names the next record of the chain
abbrev pub link_in : List ℕ → ℕ → Link
link_in file n = record { holder = n; named = (record_at file n).next }

-- no link: what a judgement that does not come to the chain has for one
abbrev pub no_link : Link
no_link = record { holder = 0; named = 0 }

-- link k of the chain: link 0 is in record 0, and the one after a link is in the record that it names
unfoldable pub link_at : List ℕ → ℕ → Link
link_at file zero = first_link file
link_at file (suc k) = link_in file (link_at file k).named
