-- `CursorPieces::piece`: what stands in the buffer, with the text to come, stays the same, line by line.
use Rattle.std.proofs.Common.{◌≡◌, ℕ, List, ◌++◌, length, take, ap, ◌∙◌, arith}
use Rattle.text.proofs.Puts.{writes_keeps_length}
use Rattle.text.proofs.Filling.{joined, beyond}
use Rattle.sheet.specs.Cursor.{sheet_to_come}
use Rattle.sheet.proofs.cursors.CursorPieces.piece.Goals as goal

pub loop-out-preserved : goal.loop-out-preserved
loop-out-preserved c =
    let file = c.args.file.now in
    let l = c.loop-out in
    let i = l.invariant in
    let u = c.put_line-end in
    let put = u.ensures in
    let long : length u.new.out ≡ length l.out =
    writes_keeps_length l.out l.len put.text u.result u.new.out put.written (omega (arith, i.fits, c.loop-out-test.true, put.short)) in record {
      fits = omega (arith, i.fits, c.loop-out-test.true, put.short, long, put.written.0);
      same = long ∙ i.same;
      joins = joined l.out u.new.out l.len u.result put.text i.fits put.written (sheet_to_come file u.new.self)
          ∙ ap (λ (s : List ℕ). take l.len l.out ++ s) put.joins
          ∙ i.joins;
      beyond = beyond l.out u.new.out l.len u.result put.text i.fits put.written c.args.out.now i.beyond;
    }
