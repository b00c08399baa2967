-- `write_standard`: the two halves, written one after the other, are the words of the pair (`halves`).
use mathlib.Core.Path.{◌≡◌, sym, ap, ap₂, ◌∙◌}
use mathlib.Core.List.{List, ◌++◌}
use Prim.Native.Nat.{ℕ}
use native.Mathlib.Omega.{arith}
use borrow.Author.Rules.{rules}
use lib.ListN.{length, drop}
use lib.Seq.{length-take-le}
use Rattle.refusal.proofs.First.{granted-accepted, granted-refused}
use Rattle.plan.specs.declared.pair.Plan.{Plan}
use Rattle.plan.proofs.Loading.{loading_refuses, loading_accepts}
use Rattle.pair_calls.proofs.Copies.{halves}
use Rattle.pair_calls.proofs.pairs.write_standard.Goals as goal

pub returns-then-words-ne-PAIR_WORDS : goal.returns-then-words-ne-PAIR_WORDS
returns-then-words-ne-PAIR_WORDS c =
    let e = loading_refuses c.args.words.now c.if-words-ne-PAIR_WORDS.true in
    record { answer = sym e; words = sym (granted-refused _ _ e) }

pub slice_bounds-copy_from_slice-end-2 : goal.slice_bounds-copy_from_slice-end-2
slice_bounds-copy_from_slice-end-2 c = sym (length-take-le 32 c.args.words.now (omega arith))

pub copy_from_slice-requires : goal.copy_from_slice-requires
copy_from_slice-requires c =
    let long : length c.standard-plan.result.x ≡ 32 = search rules in
    length-take-le 32 c.args.words.now (omega arith) ∙ sym long

pub returns : goal.returns
returns c =
    let w = c.args.words.now in
    let e = loading_accepts w c.if-words-ne-PAIR_WORDS.false in
    let x = c.copy_from_slice.new.self in
    let y = c.copy_from_slice-2.new.self in
    let long : length x ≡ 32 = c.copy_from_slice.auto.self ∙ length-take-le 32 w (omega arith) in
    record {
      answer = sym e;
      words = halves 32 x y (drop 32 w) long
          ∙ ap₂ (λ (l r : List ℕ). l ++ r) (c.copy_from_slice.ensures.after ∙ ap (λ (P : Plan). P.x) c.standard-plan.ensures)
          (c.copy_from_slice-2.ensures.after ∙ ap (λ (P : Plan). P.y) c.standard-plan.ensures)
          ∙ sym (granted-accepted _ _ e);
    }
