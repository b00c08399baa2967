-- What the model's elimination over columns of words comes to, and so what the code hands back. Assumes nothing.
use mathlib.Core.Path.{◌≡◌, refl, sym, ap, ◌∙◌, subst}
use mathlib.Core.List.{List, []}
use Prim.Native.Nat.{ℕ, ◌-◌, ◌^◌, ◌<◌}
use native.Mathlib.Omega.{arith}
use lib.ListN.{get_or, replicate}
use Rattle.ranges.specs.Below.{Below}
use Rattle.digits.proofs.Arithmetic.{zero-plus}
use Rattle.digits.proofs.Two.{one_lt_two}
use Rattle.linear.proofs.Prime.{two}
use Rattle.net.specs.Generators.{product}
use Rattle.net.specs.Elimination.{Additive, BasisEntry, solve, Eliminated, in_kernel, basis, eliminate}
use Rattle.net.proofs.Additive.{of_zero}
use Rattle.net.proofs.Elimination.{Sound, eliminate_sound, eliminate-ends}
use Rattle.net.proofs.Product.{product-additive, product_lt}
use Rattle.net.proofs.Units.{solve-additive, product_ext}
use Rattle.word.specs.Index.{index_bits}
use Rattle.elimination.specs.Elimination.{KernelIs, Eliminates, Inverts}
use Rattle.elimination.specs.Basis.{entries}
use Rattle.elimination.proofs.Refinement.{choice, Pending, pending_kernel}

module _ (columns : List ℕ) (small : Below (2 ^ 32) columns) (m : ℕ) where
  abbrev L : ℕ → ℕ
  L = product 2 columns

  additive : Additive 2 L
  additive = product-additive one_lt_two columns

  sound : (o : Eliminated) → eliminate 2 L choice m 0 [] ≡ o → Sound 2 L m o
  sound o e = subst (Sound 2 L m) e (eliminate_sound two additive choice (λ i. product_lt one_lt_two 32 columns i small) m)

  -- the pivot is 0: its index is in the kernel
  module _ {n c : ℕ} {asked : ℕ → ℕ} {rest moved asked-rest found : List ℕ} (now : Pending L m n asked c rest moved asked-rest found)
      (inside : c < m) (none : get_or rest c 0 ≡ 0) where
    stops : eliminate 2 L choice m 0 [] ≡ in_kernel (get_or moved c 0)
    stops = pending_kernel additive now inside none

    pub positive : 0 < get_or moved c 0
    positive = (sound (in_kernel (get_or moved c 0)) stops).1.positive

    kernel_found : KernelIs columns m (get_or moved c 0)
    kernel_found = record {
      least = λ n. sound (in_kernel (get_or moved c 0)) stops;
      none = λ z. let some = positive in absurd (omega arith);
    }

    pub eliminated_kernel : (word kernel : ℕ) → kernel ≡ get_or moved c 0 → Eliminates columns m word kernel 0
    eliminated_kernel word kernel e = rw e (record {
      kernel_is = kernel_found;
      no_index = λ n. refl;
      found = λ z. let some = positive in absurd (omega arith);
    })

    pub inverted_kernel : (kernel : ℕ) → kernel ≡ get_or moved c 0 → Inverts columns m kernel (replicate index_bits 0)
    inverted_kernel kernel e = rw e (record {
      kernel_is = kernel_found;
      no_inverse = λ n. refl;
      back = λ z. let some = positive in absurd (omega arith);
    })

  -- a basis inverts the product
  module _ (fs : List BasisEntry) (whole : eliminate 2 L choice m 0 [] ≡ basis fs) where
    back : (i : ℕ) → i < 2 ^ m → solve 2 L fs (L i) ≡ i
    back = sound (basis fs) whole

    kernel_none : KernelIs columns m 0
    kernel_none = record {
      least = λ n. absurd (n refl);
      none = λ z i h e. sym (back i h) ∙ ap (solve 2 L fs) e ∙ of_zero (solve-additive one_lt_two additive fs);
    }

  -- all columns are in: the basis that the model ends with, and the solution for each word asked for
  ended : {n : ℕ} {asked : ℕ → ℕ} {c : ℕ} {rest moved asked-rest found : List ℕ} → Pending L m n asked c rest moved asked-rest found → c ≡ m
      → (fs : List BasisEntry) × (eliminate 2 L choice m 0 [] ≡ basis fs) × ((t : ℕ) → t < n → get_or found t 0 ≡ solve 2 L fs (asked t))
  ended {asked = asked} now all =
      let done = rw all at now in
      let fs = entries done.words done.indexes m in
      let none : m - m ≡ 0 = omega arith in (
        fs,
        done.going.left ∙ ap (λ (k : ℕ). eliminate 2 L choice k m fs) none ∙ eliminate-ends L choice m fs,
        λ t h. (done.asked_for t h L additive done.going.images).moved ∙ zero-plus one_lt_two (solve 2 L fs (asked t)),
      )

  -- one word asked for
  pub eliminated-one : {asked c : ℕ} {rest moved asked-rest found : List ℕ} → Pending L m 1 (λ t. asked) c rest moved asked-rest found → c ≡ m
      → Eliminates columns m asked 0 (get_or found 0 0)
  eliminated-one now all =
      let (fs, whole, each) = ended now all in
      record {
        kernel_is = kernel_none fs whole;
        no_index = λ n. absurd (n refl);
        found = λ z i h e. each 0 (omega arith) ∙ ap (solve 2 L fs) (sym e) ∙ back fs whole i h;
      }

  -- the unit words asked for
  pub inverted : {c : ℕ} {rest moved asked-rest found : List ℕ} → Pending L m m (λ t. 2 ^ t) c rest moved asked-rest found → c ≡ m
      → Inverts columns m 0 found
  inverted {found = found} now all =
      let (fs, whole, each) = ended now all in
      record {
        kernel_is = kernel_none fs whole;
        no_inverse = λ n. absurd (n refl);
        back = λ z i h low. product_ext one_lt_two (solve-additive one_lt_two additive fs) found m each (L i) low ∙ back fs whole i h;
      }
