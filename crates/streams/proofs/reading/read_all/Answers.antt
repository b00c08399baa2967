-- The bytes of one read more stand behind those so far.
use Rattle.std.proofs.Common.{◌≡◌, ◌≤◌, ℕ, ◌+◌, length, take, sym, subst, arith}
use Rattle.std.specs.Io.KnownBytes.{Consumes}
use Rattle.streams.proofs.Moves.{consumes_more}
use Rattle.streams.proofs.reading.read_all.Goals as goal
use Rattle.streams.proofs.reading.read_all.Goals.{in-Moved, in-Again}

pub loop-preserved : goal.loop-preserved
loop-preserved g c =
    let so_far = c.loop.invariant in
    let P : ℕ → Type 0 = λ n. (n ≤ length c.read_on.new.buffer)
    × Consumes (g.R.Read.remaining c.args.input.now) (g.R.Read.remaining c.read_on.new.input) (take n c.read_on.new.buffer) in
    elim c.match-read_on.branch [
      | in-Moved w ↦ subst P (sym w.done-is) (
        omega (arith, so_far.0, w.in-Moved.ensures.most),
        consumes_more _ _ _ _ _ _ _ w.in-Moved.ensures.kept
            so_far.1 w.in-Moved.ensures.bytes,
      )
      | in-Again w ↦
          let same : c.loop.done + 0 ≡ c.match-read_on.done = omega (arith, w.done-is) in
          subst P same (omega (arith, so_far.0), consumes_more _ _ _ _ _ _ 0 w.in-Again.ensures.kept so_far.1 w.in-Again.ensures.bytes)
    ]
