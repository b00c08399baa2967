-- Of all refusals only 3 has values.
-- Assumes nothing.
use mathlib.Core.Path.{◌≡◌, refl}
use mathlib.Core.List.{[]}
use Prim.Native.Nat.{ℕ}
use Rattle.refusal.specs.declared.Refusal.{Refusal}
use Rattle.refusal.specs.declared.Refusal.TheVariants as variant
use Rattle.refusal.specs.Refusal.{values}

pub no-values : (why : Refusal) → ((m a j : ℕ) → why ≡ variant.NotNet m a j → ⊥) → values why ≡ []
no-values variant.WordCount h = refl
no-values variant.Level h = refl
no-values (variant.NotNet m a j) h = absurd (h m a j refl)
no-values variant.Size h = refl
no-values variant.Shape h = refl
no-values variant.Cell h = refl
no-values variant.Block h = refl
no-values variant.BufferLengths h = refl
no-values variant.IndexRange h = refl
no-values variant.Region h = refl
no-values variant.FileLength h = refl
no-values variant.ReservedBytes h = refl
no-values variant.MissingRecord h = refl
no-values variant.ChainReturns h = refl
no-values variant.VisitCount h = refl
no-values variant.Field h = refl
no-values variant.FlipBytes h = refl
no-values variant.FlipBit h = refl
