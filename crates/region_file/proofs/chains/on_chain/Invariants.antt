-- `chains::on_chain`. The loop's invariant: n is one of the numbers still to be followed exactly when it is on the chain.
use mathlib.Core.Path.{◌≡◌}
use Prim.Native.Nat.{◌-◌, ◌^◌, ◌<◌}
use Rattle.region_file.specs.Records.{most_records}
use Rattle.region_file.specs.Chain.{numbers, member, on_chain}
use Rattle.region_file.proofs.chains.on_chain.Given as goal

abbrev pub invariant-loop : goal.invariant-loop
invariant-loop l = (l.number < 2 ^ 32) × (member l.n (numbers l.file (most_records - l.counter) l.number) ≡ on_chain l.file l.n)
