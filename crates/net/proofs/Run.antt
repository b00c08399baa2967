-- The visits of a run and of a part of it, those of a walk over a run, and how many of consecutive visits an interval has. Assumes nothing.
use mathlib.Core.Path.{◌≡◌, sym, ap, ◌∙◌, subst}
use Prim.Native.Nat.{ℕ, suc, ◌+◌, ◌-◌, ◌*◌, ◌^◌, ◌≤◌, ◌<◌, min}
use native.Mathlib.Omega.{arith}
use lib.ListN.{take, drop}
use Rattle.ranges.specs.Range.{range}
use Rattle.ranges.specs.Count.{count}
use Rattle.ranges.specs.Bounds.{CountBounds}
use Rattle.ranges.specs.Walk.{visits_given}
use Rattle.ranges.proofs.Range.{take-each, drop-each}
use Rattle.ranges.proofs.Count.{count_map, count-one}
use Rattle.ranges.proofs.Bounds.{count_bounds}
use Rattle.ranges.proofs.Walk.{list-within, visits_given_is}
use Rattle.net.specs.Sequence.{Sequence, Finds, lies}
use Rattle.net.specs.Run.{visit, visits, run, hits}
use Rattle.net.specs.Steps.{Runs, WalkedRun}
use Rattle.net.proofs.VisitIndex.{lies-of, of-lies}

-- the visits of a range in an interval, as the indexes that pass a test
pub hits-lies : (S : Sequence) (m a c r s n : ℕ) → hits S m a c r (visits S s n) ≡ count (lies S m a c r) (range s n)
hits-lies S m a c r s n = count_map _ (visit S) (range s n)

pub runs : (S : Sequence) (m k : ℕ) → Runs S m k
runs S m k = record { one_hit = one_hit; run_from = part }
  where
    one_hit : (a : ℕ) (find : ℕ → ℕ → ℕ) → Finds S m a k find → (c r : ℕ) → c < S.b ^ a → r < S.b ^ (m - a) → hits S m a c r (run S m k) ≡ 1
    one_hit a find finds c r hc hr =
        let one = finds c r hc hr in
        let from = one.holds.in_block.from in
        let below = one.holds.in_block.below in
        hits-lies S m a c r (k * S.b ^ m) (S.b ^ m)
        ∙ count-one (lies S m a c r) (k * S.b ^ m) (S.b ^ m) (find c r) from (omega arith)
        (lies-of S m a c r (find c r) one.holds.in_column one.holds.in_row)
        (λ j l u hit.
        let (p, q) = of-lies S m a c r j hit in
        one.only j (record { in_block = record { from = l; below = omega arith }; in_column = p; in_row = q }))

    part : (p n : ℕ) → take (S.b ^ m - p) (visits S (k * S.b ^ m + p) n) ≡ take n (drop p (run S m k))
    part p n =
        let first = k * S.b ^ m in
        let e : min (S.b ^ m - p) n ≡ min n (S.b ^ m - p) = omega arith in
        take-each (visit S) (first + p) n (S.b ^ m - p) ∙ ap (λ (c : ℕ). visits S (first + p) c) e
        ∙ sym (ap (take n) (drop-each (visit S) first (S.b ^ m) p) ∙ take-each (visit S) (first + p) (S.b ^ m - p) n)

-- ---- a walk over a run

pub walked_run : (S : Sequence) (m k last count n : ℕ) → k * S.b ^ m + count ≤ suc last → WalkedRun S m k last count n
walked_run S m k last count n room = record {
  list = ap (take size) (ap visits_given (list-within (visit S) last first count n room) ∙ visits_given_is (visit S) n first count)
      ∙ take-each (visit S) first (min n count) size ∙ ap (visits S first) turned ∙ sym (take-each (visit S) first size (min n count));
}
  where
    first : ℕ
    first = k * S.b ^ m

    size : ℕ
    size = S.b ^ m

    turned : min size (min n count) ≡ min (min n count) size
    turned = omega arith

-- ---- counts that stop anywhere

pub counted : (S : Sequence) (m a c r : ℕ) → ((k : ℕ) → hits S m a c r (run S m k) ≡ 1)
    → (start n : ℕ) → 1 ≤ n → CountBounds start n (S.b ^ m) (hits S m a c r (visits S start n))
counted S m a c r each start n some =
    subst (CountBounds start n (S.b ^ m)) (sym (hits-lies S m a c r start n))
    (count_bounds (lies S m a c r) (S.b ^ m) (λ k. sym (hits-lies S m a c r (k * S.b ^ m) (S.b ^ m)) ∙ each k) start n some)
