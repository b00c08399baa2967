-- `identity_columns`: the half of a column is the next one.
use Rattle.std.proofs.Common.{◌≡◌, ℕ, ◌+◌, ◌/◌, get_or, sym, ap, ◌∙◌, rules}
use Rattle.digits.proofs.Two.{one_lt_two}
use Rattle.net.specs.Standard.{identity_column}
use Rattle.net.proofs.Columns.{identity-step}
use Rattle.word.proofs.Stepped.{stepped}
use Rattle.word.proofs.standard.identity_columns.Goals as goal

pub returns : goal.returns
unfolding identity_column
returns c =
    let l = c.columns_by.result in
    stepped (identity_column 2 32) l 32 (search rules) c.columns_by.ensures.first (λ k h is.
    let half : get_or l (k + 1) 0 ≡ get_or l k 0 / 2 = search (rules, c.columns_by.ensures.next k h) in
    half ∙ ap (λ (x : ℕ). x / 2) is ∙ sym (identity-step one_lt_two 32 k))
