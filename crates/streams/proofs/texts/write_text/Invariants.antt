-- The bytes that were taken and those to come are as many as the text has, and the writer got the text up to those. The loop ends since each piece
-- leaves less to come.
use Rattle.std.proofs.Common.{length}
use Rattle.streams.proofs.Written.{Written, Got}
use Rattle.streams.proofs.texts.write_text.Given as goal

abbrev pub invariant-pieces : goal.invariant-pieces
invariant-pieces g l =
    Written l.taken (g.P.Pieces.to_come l.file l.pieces) (g.P.Pieces.to_come l.file l.initial.pieces)
    × Got (g.W.Write.contents l.initial.output) (g.W.Write.contents l.output) (g.P.Pieces.to_come l.file l.pieces)
    (g.P.Pieces.to_come l.file l.initial.pieces)

abbrev pub decreases-pieces : goal.decreases-pieces
decreases-pieces g l = length (g.P.Pieces.to_come l.file l.pieces)
