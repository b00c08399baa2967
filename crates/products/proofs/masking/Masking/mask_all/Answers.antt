-- `mask_all`: the words so far are masked.
use Rattle.std.proofs.Common.{◌≡◌, ℕ, ◌++◌, List, map, length, get_or, set, take, drop, ◌<◌, sym, ap, ◌∙◌, add-one, arith}
use Rattle.ranges.proofs.Mapped.{map-step, map_next, map_whole}
use Rattle.products.specs.Products.{masked}
use Rattle.products.proofs.masking.Masking.mask_all.Goals as goal

pub loop-word-preserved : goal.loop-word-preserved
loop-word-preserved c =
    let l = c.loop-word in
    let i = l.word-index in
    let old = c.args.words.now in
    let f = masked c.args.self.now.bits c.args.self.now.masks.now in
    let x = c.masked.result in
    let h : i < length old = omega arith in
    let is : get_or l.words i 0 ≡ get_or old i 0 = ap (λ (m : List ℕ). get_or m i 0) (sym l.invariant) ∙ map_next 0 f old i h in
    ap (λ (n : ℕ). map f (take n old) ++ drop n old) (add-one i)
    ∙ sym (map-step 0 f old i x h (c.masked.ensures ∙ ap f is)) ∙ ap (λ (m : List ℕ). set m i x) l.invariant

pub returns : goal.returns
returns c =
    let l = c.loop-word in
    let m = c.args.self.now in
    sym l.invariant ∙ map_whole 0 (masked m.bits m.masks.now) c.args.words.now l.word-index (omega arith)
