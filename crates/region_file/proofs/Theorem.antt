-- What users rely on: one term of `Theorems`.
-- Assumes nothing.
use Rattle.region_file.specs.Theorem.{Theorems}
use Rattle.region_file.proofs.Numbers.{whole_chain}
use Rattle.region_file.proofs.Ends.{chains_end}
use Rattle.region_file.proofs.Stops.{stops}
use Rattle.region_file.proofs.OnChain.{only_the_chain}
use Rattle.region_file.proofs.Further.{further_tests}
use Rattle.region_file.proofs.Field.{sixteen_at, no_records}
use Rattle.region_file.proofs.Base.{as_before}

pub theorems : Theorems
theorems = record {
  chains_end = chains_end;
  whole_chain = whole_chain;
  only_the_chain = only_the_chain;
  further_tests = further_tests;
  sixteen_at = sixteen_at;
  no_records = no_records;
  as_before = as_before;
  stops = stops;
}
