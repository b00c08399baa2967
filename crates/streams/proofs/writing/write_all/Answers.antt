-- The bytes of one write more stand behind those so far.
use Rattle.std.proofs.Common.{◌≡◌, ◌≤◌, ℕ, ◌+◌, length, take, sym, subst, arith}
use Rattle.std.specs.Io.KnownBytes.{Appends}
use Rattle.streams.proofs.Moves.{appends_more}
use Rattle.streams.proofs.writing.write_all.Goals as goal
use Rattle.streams.proofs.writing.write_all.Goals.{in-Moved, in-Again}

pub loop-preserved : goal.loop-preserved
loop-preserved g c =
    let so_far = c.loop.invariant in
    let P : ℕ → Type 0 = λ n. (n ≤ length c.args.text.now)
    × Appends (g.W.Write.contents c.args.output.now) (g.W.Write.contents c.write_on.new.output) (take n c.args.text.now) in
    elim c.match-write_on.branch [
      | in-Moved w ↦ subst P (sym w.bytes-is) (
        omega (arith, so_far.0, w.in-Moved.ensures.most),
        appends_more _ _ _ _ _ _ so_far.1
            w.in-Moved.ensures.bytes,
      )
      | in-Again w ↦
          let same : c.loop.bytes + 0 ≡ c.match-write_on.bytes = omega (arith, w.bytes-is) in
          subst P same (omega (arith, so_far.0), appends_more _ _ _ _ _ 0 so_far.1 w.in-Again.ensures.bytes)
    ]
