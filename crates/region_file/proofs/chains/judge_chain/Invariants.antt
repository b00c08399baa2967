-- `chains::judge_chain`. The loop's invariant: the chain from the link on, with as many links as records are free and the marked ones as
-- visited, is judged as the whole chain, and its judgement stops at the same link. The measure is the number of free records.
use mathlib.Core.Path.{◌≡◌}
use mathlib.Core.Bool.{Bool, false}
use mathlib.Core.List.{List}
use Prim.Native.Nat.{ℕ, ◌<◌, ◌^◌}
use lib.ListN.{length, get_or}
use Rattle.region_file.specs.declared.chains.Link.{Link}
use Rattle.region_file.specs.Records.{first_record, most_records}
use Rattle.region_file.specs.Chain.{first_link}
use Rattle.region_file.specs.Judge.{listing_tests, nowhere, chain_outcome, chain_stop}
use Rattle.region_file.proofs.Marks.{marked, free}
use Rattle.region_file.proofs.chains.judge_chain.Given as goal

pub record Judging (file : List ℕ) (marks : List Bool) (link : Link) : Type 0 where
  pub whole : length marks ≡ most_records
  pub head_free : get_or marks 0 false ≡ false
  pub named : link.named < 2 ^ 32
  pub judged : chain_outcome (listing_tests file) file (free marks) (marked marks) link.named
      ≡ chain_outcome (listing_tests file) file most_records nowhere (first_record file)
  pub stops : chain_stop (listing_tests file) file (free marks) (marked marks) link
      ≡ chain_stop (listing_tests file) file most_records nowhere (first_link file)

abbrev pub invariant-loop-link : goal.invariant-loop-link
invariant-loop-link l = Judging l.file l.marks l.link

abbrev pub decreases-loop-link : goal.decreases-loop-link
decreases-loop-link l = free l.marks
