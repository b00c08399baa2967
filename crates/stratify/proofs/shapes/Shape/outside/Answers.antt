-- `outside`: the column first, and then the row.
use Rattle.digits.proofs.Digit.{lt_of-div}
use Rattle.digits.proofs.Two.{one_lt_two}
use Rattle.stratify.proofs.Tests.{row-decides}
use Rattle.stratify.proofs.shapes.Shape.outside.Goals as goal

pub returns-else-column-self-ne0 : goal.returns-else-column-self-ne0
returns-else-column-self-ne0 c =
    let s = c.args.self in
    row-decides s.m s.a c.args.column c.args.row (lt_of-div one_lt_two _ _ c.if-column-self-ne0.false)
