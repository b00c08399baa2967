-- `mask_all`: the words so far are masked.
use Rattle.std.proofs.Common.{◌≡◌, ◌++◌, map, take, drop}
use Rattle.products.specs.Products.{masked}
use Rattle.products.proofs.masking.Masking.mask_all.Given as goal

abbrev pub invariant-loop-word : goal.invariant-loop-word
invariant-loop-word l =
    map (masked l.self.bits l.self.masks.now) (take l.word-index l.initial.words) ++ drop l.word-index l.initial.words ≡ l.words
