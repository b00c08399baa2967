-- `pascal_columns`: a column and its half, added without carries, are the next one.
use Rattle.std.proofs.Common.{◌≡◌, bit_xor, ℕ, ◌+◌, ◌/◌, get_or, sym, ap, ◌∙◌, rules}
use Rattle.digits.specs.Digits.{from_digits}
use Rattle.digits.proofs.Two.{one_lt_two, plus-two}
use Rattle.net.specs.Standard.{binomial, pascal_column}
use Rattle.net.proofs.Columns.{pascal-step}
use Rattle.word.proofs.Stepped.{stepped}
use Rattle.word.proofs.standard.pascal_columns.Goals as goal

pub returns : goal.returns
unfolding pascal_column from_digits binomial
returns c =
    let l = c.columns_by.result in
    stepped (pascal_column 2 32) l 32 (search rules) c.columns_by.ensures.first (λ k h is.
    let sum : get_or l (k + 1) 0 ≡ bit_xor (get_or l k 0) (get_or l k 0 / 2) = search (rules, c.columns_by.ensures.next k h) in
    sum ∙ ap (λ (x : ℕ). bit_xor x (x / 2)) is ∙ sym (pascal-step one_lt_two 32 k ∙ plus-two (pascal_column 2 32 k) (pascal_column 2 32 k / 2)))
