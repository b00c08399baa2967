-- Products of a generator matrix with consecutive indexes, with a word added to each, and a buffer filled with them.
use Rattle.std.specs.Prelude.{cond, List, map, ℕ, ◌*◌, ◌/◌, ◌%◌, ◌^◌, length, get_or}
use Rattle.ranges.specs.Range.{range}
use Rattle.digits.specs.Digits.{plus}
use Rattle.net.specs.Generators.{product}
use Rattle.net.specs.Sequence.{top}
use Rattle.word.specs.Index.{index_count, goes_past}

-- the product of the matrix with the index i, and a word added without carries
abbrev pub product_added : List ℕ → ℕ → ℕ → ℕ
product_added columns added i = plus 2 (product 2 columns i) added

-- the products with the indexes from start on, in every word of a buffer; one that would go past the last index is left as it was
abbrev pub products_filled : List ℕ → (added start : ℕ) → List ℕ → List ℕ
products_filled columns added start old =
    cond (goes_past index_count start (length old)) old (map (product_added columns added) (range start (length old)))

-- a word of 32 bits with a mask added without carries: the one that its t leading bits choose
abbrev pub masked : (t : ℕ) → List ℕ → ℕ → ℕ
masked t masks w = plus 2 w (get_or masks (top 2 32 t w) 0)

-- the product of the matrix with the index i, masked
abbrev pub product_masked : (t : ℕ) → (masks columns : List ℕ) → ℕ → ℕ
product_masked t masks columns i = masked t masks (product 2 columns i)

-- f of the indexes from start on, in every word of a buffer; one that would go past the last index is left as it was
abbrev pub indexes_filled : (ℕ → ℕ) → (start : ℕ) → List ℕ → List ℕ
indexes_filled f start old = cond (goes_past index_count start (length old)) old (map f (range start (length old)))

-- ---- groups

-- the number of indexes of a group
abbrev pub group_size : ℕ
group_size = 64

-- what leads from the first product of a group, of which v are the t leading bits, to the masked product i places after it
abbrev pub group_entry : (t : ℕ) → (masks columns : List ℕ) → (v i : ℕ) → ℕ
group_entry t masks columns v i = plus 2 (product 2 columns i) (get_or masks (plus 2 v (top 2 32 t (product 2 columns i))) 0)

-- the tables of all v, one after the other
abbrev pub group_tables : (t : ℕ) → (masks columns : List ℕ) → List ℕ
group_tables t masks columns = map (λ n. group_entry t masks columns (n / group_size) (n % group_size)) (range 0 (2 ^ t * group_size))
