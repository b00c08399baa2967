-- The one term for specs/Theorem. Assumes nothing.
use Prim.Native.Nat.{ℕ}
use Rattle.ranges.specs.Theorem.{Pigeonhole, Theorems}
use Rattle.ranges.proofs.Bounds as B
use Rattle.ranges.proofs.Pigeon as P
use Rattle.ranges.proofs.Walk as W

pigeonhole : (N : ℕ) → Pigeonhole N
pigeonhole N = record { onto = P.onto N }

pub theorems : Theorems
theorems = record {
  pigeonhole = pigeonhole;
  ceilings = B.ceiling_is;
  count_bounds = B.count_bounds;
  from_block = B.from_block;
  blocks_of_one = B.blocks_of_one;
  walked = W.walked;
  walked_by_hand = W.walked_by_hand;
}
