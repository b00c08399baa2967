-- `chains::judge_chain`. The loop's invariant: the chain from the link on, with as many links as records are free and the marked ones as
-- visited, is judged as the whole chain, and its judgement stops at the same link. The measure is the number of free records.
use mathlib.Core.Path.{◌≡◌, sym, ap, ap₂, ◌∙◌}
use mathlib.Core.Bool.{Bool, true, false}
use mathlib.Core.List.{List}
use Prim.Native.Nat.{ℕ, ◌<◌}
use native.Mathlib.Omega.{arith}
use borrow.Author.Rules.{rules}
use lib.ListN.{length, set, length-set, length-replicate}
use lib.Seq.{get_or-set_other}
use Rattle.refusal.specs.Outcome.{accepted}
use Rattle.region_file.specs.declared.records.Record.{Record}
use Rattle.region_file.specs.declared.chains.Link.{Link}
use Rattle.region_file.specs.Records.{most_records}
use Rattle.region_file.specs.Judge.{listing_tests, link_outcome, nowhere, chain_outcome, chain_stop}
use Rattle.region_file.proofs.Marks.{marked, free, free_fresh, fresh_at, marked_fresh, free-set, free-some, marked-set}
use Rattle.region_file.proofs.Chain.{passed, chain_end, chain_refused, chain_next}
use Rattle.region_file.proofs.Stop.{stop-end, stop-refused, stop-next}
use Rattle.region_file.proofs.chains.judge_chain.Goals as goal
use Rattle.region_file.proofs.chains.judge_chain.Goals.{After-unwrap_or-seen, In_default}

abbrev from : ℕ → ℕ → Link
from holder n = record { holder = holder; named = n }

pub loop-link-init : goal.loop-link-init
loop-link-init c =
    let file = c.args.file.now in
    let n = c.first_record.result in record {
      whole = length-replicate {A = Bool} most_records false;
      head_free = fresh_at most_records 0;
      named = c.first_record.type_inv;
      judged = ap₂ (λ (f : ℕ) (m : ℕ → Bool). chain_outcome (listing_tests file) file f m n) (free_fresh most_records) (marked_fresh most_records)
          ∙ ap (chain_outcome (listing_tests file) file most_records nowhere) c.first_record.ensures;
      stops = ap₂ (λ (f : ℕ) (m : ℕ → Bool). chain_stop (listing_tests file) file f m (from 0 n)) (free_fresh most_records)
          (marked_fresh most_records)
          ∙ ap (λ (k : ℕ). chain_stop (listing_tests file) file most_records nowhere (from 0 k)) c.first_record.ensures;
    }

-- the code reads whether the record that the link names is marked
seen : (c : goal.After-unwrap_or-seen) → c.unwrap_or-seen.result ≡ marked c.loop-link.marks c.loop-link.link.named
seen c = search rules

pub returns-in-Err : goal.returns-in-Err
returns-in-Err c =
    let file = c.args.file.now in
    let i = c.loop-link in
    let v = marked i.marks in
    let ne = c.loop-link-test.true in
    let refuses = ap (λ (b : Bool). link_outcome (listing_tests file) file b i.link.named)
    (sym (seen (goal.at.returns-in-Err c).After-unwrap_or-seen))
    ∙ sym c.in-Err.ensures in
    let some = free-some i.marks i.invariant.whole i.invariant.head_free in record {
      judgement = sym (chain_refused (listing_tests file) file v i.link.named ne (free i.marks) some refuses) ∙ i.invariant.judged;
      link = sym (stop-refused (listing_tests file) file v i.link (free i.marks) ne refuses) ∙ i.invariant.stops;
    }

-- a link that passes names an unmarked record of the file
record Taken (file : List ℕ) (ms : List Bool) (n : ℕ) : Type 0 where
  pub passes : link_outcome (listing_tests file) file (marked ms n) n ≡ accepted tt
  pub here : n < length ms
  pub clear : marked ms n ≡ false

taken : (c : In_default) → Taken c.args.file.now c.loop-link.marks c.loop-link.link.named
taken c =
    let file = c.args.file.now in
    let i = c.loop-link in
    let n = i.link.named in
    let h : link_outcome (listing_tests file) file (marked i.marks n) n ≡ accepted tt =
    ap (λ (b : Bool). link_outcome (listing_tests file) file b n) (sym (seen (goal.at.bounds-marks-n c).After-unwrap_or-seen))
    ∙ sym c.in_default.ensures in
    let p = (passed (listing_tests file) file (marked i.marks n) n h).0 in
    let few = c.requires in
    let long = i.invariant.whole in
    let here = p.here in
    record { passes = h; here = omega (arith, here, few, long); clear = p.fresh }

pub bounds-marks-n : goal.bounds-marks-n
bounds-marks-n c = let t = taken c in omega (arith, t.here)

pub loop-link-smaller : goal.loop-link-smaller
loop-link-smaller c =
    let i = c.loop-link in
    let t = taken (goal.at.loop-link-smaller c).In_default in
    omega (arith, free-set i.marks i.link.named t.here t.clear)

pub loop-link-preserved : goal.loop-link-preserved
loop-link-preserved c =
    let file = c.args.file.now in
    let i = c.loop-link in
    let n = i.link.named in
    let t = taken (goal.at.loop-link-preserved c).In_default in
    let v = marked i.marks in
    let left = set i.marks n true in
    let ne = c.loop-link-test.true in
    let less = sym (free-set i.marks n t.here t.clear) in
    let next = ap (λ (r : Record). r.next) c.record_at-passed.ensures in
    let q : ◌≡◌ {A = ℕ} 0 n → ⊥ = (λ x. ne (sym x)) in record {
      whole = length-set i.marks n true ∙ i.invariant.whole;
      head_free = get_or-set_other i.marks n 0 true false q ∙ i.invariant.head_free;
      named = search rules;
      judged = ap₂ (λ (m : ℕ → Bool) (k : ℕ). chain_outcome (listing_tests file) file (free left) m k) (marked-set i.marks n t.here) next
          ∙ sym (chain_next (listing_tests file) file v n ne (free left) t.passes)
          ∙ ap (λ (f : ℕ). chain_outcome (listing_tests file) file f v n) less
          ∙ i.invariant.judged;
      stops = ap₂ (λ (m : ℕ → Bool) (k : ℕ). chain_stop (listing_tests file) file (free left) m (from n k)) (marked-set i.marks n t.here) next
          ∙ sym (stop-next (listing_tests file) file v i.link (free left) ne t.passes)
          ∙ ap (λ (f : ℕ). chain_stop (listing_tests file) file f v i.link) less
          ∙ i.invariant.stops;
    }

pub returns : goal.returns
returns c =
    let file = c.args.file.now in
    let i = c.loop-link in
    let v = marked i.marks in
    let end = c.loop-link-test.false in
    let some = free-some i.marks i.invariant.whole i.invariant.head_free in record {
      judgement = sym (chain_end (listing_tests file) file (free i.marks) some v i.link.named end) ∙ i.invariant.judged;
      link = sym (stop-end (listing_tests file) file v i.link (free i.marks) end) ∙ i.invariant.stops;
    }
