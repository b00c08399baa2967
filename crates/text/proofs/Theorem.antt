-- What users rely on: the laws of Back, Signed and Joins, gathered.
-- Assumes nothing.
use Rattle.text.specs.Theorem.{Theorems}
use Rattle.text.proofs.Back.{reads_back, all_digits, no_zero_leads}
use Rattle.text.proofs.Signed.{signed_reads_back, signed_all_digits, minus_leads, no_minus_zero}
use Rattle.text.proofs.Joins.{so_far, whole}

pub theorems : Theorems
theorems = record {
  decimals = record { reads_back = reads_back; all_digits = all_digits; no_zero_leads = no_zero_leads };
  signed_decimals = record {
    reads_back = signed_reads_back;
    all_digits = signed_all_digits;
    minus_leads = minus_leads;
    no_minus_zero = no_minus_zero;
  };
  pieces = record { so_far = so_far; whole = whole };
}
