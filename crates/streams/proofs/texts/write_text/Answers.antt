-- After each piece the writer got that too; where one was cut, a start of it.
use Rattle.std.proofs.Common.{◌≡◌, sym, subst, rules}
use Rattle.std.specs.Prelude.{Err}
use Rattle.streams.specs.Ending.{Puts}
use Rattle.streams.proofs.Written.{written-more, got_more, got_cut}
use Rattle.streams.proofs.texts.write_text.Goals as goal

pub returns-in_err-taken-clause-bytes : goal.returns-in_err-taken-clause-bytes
returns-in_err-taken-clause-bytes g c =
    let back : c.from_residual.result ≡ Err c.in_err-taken.field-0.0 = search rules in
    let cut = got_cut c.piece-len.ensures.piece _ _ _ _ c.pieces.invariant.1 c.in_err-taken.ensures.bytes in
    subst (Puts (g.W.Write.contents c.args.output.now) (g.W.Write.contents c.write_piece.new.output)
    (g.P.Pieces.to_come c.args.file.now c.args.pieces)) (sym back) cut

pub pieces-preserved : goal.pieces-preserved
pieces-preserved g c =
    let given = c.piece-len.ensures.piece in
    (written-more given c.pieces.invariant.0 c.in_ok-taken.ensures.counted, got_more given _ _ _ _ c.pieces.invariant.1 c.in_ok-taken.ensures.bytes)
