-- What an elimination answers, over the product of columns with an index (net's `product`, in base two).
use Rattle.std.specs.Prelude.{◌≡◌, ◌≢◌, ◌⊎◌, List, ℕ, ◌^◌, ◌≤◌, ◌<◌, replicate, Result, Ok, Err}
use Rattle.net.specs.Generators.{Generators, product}
use Rattle.net.specs.Scrambling.{plain}
use Rattle.net.specs.Elimination.{LeastZero, interval}
use Rattle.word.specs.Index.{index_bits}
use Rattle.elimination.specs.declared.kernel.Dependent.{Dependent}

-- ---- the columns of a shape

-- the product with an index of m digits is the number of its plain interval (01: cell)
abbrev pub ShapeColumns : Generators → ℕ → ℕ → List ℕ → Type 0
ShapeColumns G m a columns = (i : ℕ) → i < 2 ^ m → product 2 columns i ≡ interval (plain G) m a i

-- the same for all m and a: what is no shape has columns of 0
pub record ShapeColumnsAny (G : Generators) (m a : ℕ) (columns : List ℕ) : Type 0 where
  pub shape : a ≤ m → m ≤ G.R → ShapeColumns G m a columns
  pub other : (m < a) ⊎ (G.R < m) → columns ≡ replicate index_bits 0

-- an inverse leads from the number of the interval back to the index
abbrev pub ShapeInverse : Generators → ℕ → ℕ → List ℕ → Type 0
ShapeInverse G m a inverse = (i : ℕ) → i < 2 ^ m → product 2 inverse (interval (plain G) m a i) ≡ i

-- ---- the kernel of the first m columns

-- `kernel` is the least index above 0 whose product is 0, and has m digits; or it is 0, and then no index of m digits above 0 has the product 0
pub record KernelIs (columns : List ℕ) (m kernel : ℕ) : Type 0 where
  pub least : kernel ≢ 0 → (kernel < 2 ^ m) × LeastZero (product 2 columns) kernel
  pub none : kernel ≡ 0 → (i : ℕ) → i < 2 ^ m → product 2 columns i ≡ 0 → i ≡ 0

-- the kernel that a result names, and 0 where it names none
abbrev pub kernel_of : {A : Type 0} → Result A Dependent → ℕ
kernel_of (Ok x) = 0
kernel_of (Err d) = d.kernel

-- ---- what is asked for

-- the index that a result gives, and 0 where it gives none
abbrev pub index_of : Result ℕ Dependent → ℕ
index_of (Ok index) = index
index_of (Err d) = 0

-- the inverse that a result gives, and columns of 0 where it gives none
abbrev pub inverse_of : Result (List ℕ) Dependent → List ℕ
inverse_of (Ok inverse) = inverse
inverse_of (Err d) = replicate index_bits 0

-- the index for one word: where an index of m digits has this word as its product, it is that index; where there is a kernel, it is 0
pub record Eliminates (columns : List ℕ) (m asked kernel index : ℕ) : Type 0 where
  pub kernel_is : KernelIs columns m kernel
  pub no_index : kernel ≢ 0 → index ≡ 0
  pub found : kernel ≡ 0 → (i : ℕ) → i < 2 ^ m → product 2 columns i ≡ asked → index ≡ i

-- the inverse: its product leads back from each product of m digits; where there is a kernel, it is 0
pub record Inverts (columns : List ℕ) (m kernel : ℕ) (inverse : List ℕ) : Type 0 where
  pub kernel_is : KernelIs columns m kernel
  pub no_inverse : kernel ≢ 0 → inverse ≡ replicate index_bits 0
  pub back : kernel ≡ 0 → (i : ℕ) → i < 2 ^ m → product 2 columns i < 2 ^ m → product 2 inverse (product 2 columns i) ≡ i

-- the same for all m: for more columns than there are, all is 0
pub record EliminatesAny (columns : List ℕ) (m asked kernel index : ℕ) : Type 0 where
  pub within : m ≤ index_bits → Eliminates columns m asked kernel index
  pub beyond : index_bits < m → (kernel ≡ 0) × (index ≡ 0)

pub record InvertsAny (columns : List ℕ) (m kernel : ℕ) (inverse : List ℕ) : Type 0 where
  pub within : m ≤ index_bits → Inverts columns m kernel inverse
  pub beyond : index_bits < m → (kernel ≡ 0) × (inverse ≡ replicate index_bits 0)
