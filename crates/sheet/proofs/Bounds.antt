-- The visits of an accepted file have room in their columns.
-- Assumes nothing.
use Rattle.std.proofs.Common.{◌≡◌, ℕ, suc, ◌-◌, ◌*◌, ◌/◌, ◌^◌, ◌<◌, ◌≤◌, Bool, true, false, cond, not, ltb, List, [], ◌∷◌, ℤ, pos, negsuc, ◌+ℤ◌}
use Rattle.std.proofs.Common.{div-lt_iff_lt-mul, mul-le-mul_left, arith, lit<, ltb-false}
use borrow.Author.Tests.{not-true}
use Rattle.ranges.specs.Below.{Below}
use Rattle.ranges.specs.Each.{Each}
use Rattle.ranges.proofs.Tests.{both_hold}
use Rattle.ranges.proofs.Each.{each_append, each-of-range}
use Rattle.refusal.specs.Outcome.{accepted, Test}
use Rattle.stage.specs.Position.{edge_within, offset, position, largest_extent}
use Rattle.stage.proofs.Limits.{within_has}
use Rattle.stage.proofs.Fit.{corners-within}
use Rattle.region_file.specs.declared.records.Record.{Record}
use Rattle.region_file.specs.Records.{record_at, reader_field, record_count, most_records}
use Rattle.region_file.specs.Chain.{chain_numbers}
use Rattle.region_file.specs.Judge.{loader_tests, judge_outcome}
use Rattle.region_file.proofs.Chain.{sound}
use Rattle.region_file.proofs.Accepted.{few_records, Good, numbers_good}
use Rattle.visits.specs.Visits.{planned, position_of, file_visit, record_visits, visits_of, file_visits}
use Rattle.visits.proofs.Inside.{record_fits}
use Rattle.sheet.specs.Theorem.{Near, Narrow}

-- ---- a position

offset-most : (x w : ℕ) → x ≤ largest_extent → w < 2 ^ 32 → offset x w ≤ 999999
offset-most x w h l =
    let p : w * x ≤ w * largest_extent = mul-le-mul_left w h in
    let q : w * x / 2 ^ 32 < largest_extent = (div-lt_iff_lt-mul (lit< tt)).1 (omega (arith, p)) in
    omega (arith, q)

near_sum : (e : ℤ) (k : ℕ) → edge_within e ≡ true → k ≤ 999999 → Near (e +ℤ pos k)
near_sum (pos a) k t h = let l : a ≤ 1000000 = ltb-false 1000000 a (not-true _ t) in omega arith
near_sum (negsuc a) k t h = go (ltb k (suc a)) (ltb-false 999999 a (not-true _ (both_hold (not (ltb 999999 a)) true t).0))
  where
    go : (b : Bool) → a ≤ 999999 → Near (cond b (negsuc (suc a - suc k)) (pos (k - suc a)))
    go true l = omega arith
    go false l = omega arith

position_near : (e : ℤ) (x w : ℕ) → edge_within e ≡ true → x ≤ largest_extent → w < 2 ^ 32 → Near (position e x w)
position_near e x w t h l = near_sum e (offset x w) t (offset-most x w h l)

-- ---- visits

module _ (further : Record → List Test) (file : List ℕ) (bytes : Below 256 file) (few : record_count file ≤ most_records) where
  visit-narrow : (n i : ℕ) → Good (loader_tests further file) file n → i < (planned file n).count → Narrow (file_visit n (planned file n) i)
  unfolding position_of
  visit-narrow n i g h =
      let f = reader_field file in
      let named = record_at file n in
      let r = planned file n in
      let here = g.here in
      let own = sound further f named g.own in
      let most = own.few in
      let F = record_fits file bytes n in
      let W = within_has r.region (corners-within f named.region own.inside own.taken) in
      record {
        number = omega (arith, here);
        index = omega (arith, most);
        x = position_near r.region.left r.region.width _ W.left W.width (F.x i);
        y = position_near r.region.top r.region.height _ W.top W.height (F.y i);
      }

  records_narrow : (ns : List ℕ) → Each (Good (loader_tests further file) file) ns → Each Narrow (visits_of file ns)
  unfolding visits_of
  records_narrow [] g = tt
  records_narrow (n ∷ ns) g =
      each_append Narrow (record_visits n (planned file n) 0 (planned file n).count) (visits_of file ns)
      (each-of-range Narrow (file_visit n (planned file n)) 0 (planned file n).count (λ i l u. visit-narrow n i g.0 (omega arith)))
      (records_narrow ns g.1)

-- of an accepted file, whatever further tests it passed
pub visits-narrow : (further : Record → List Test) (file : List ℕ) → Below 256 file → judge_outcome further file ≡ accepted tt
    → Each Narrow (file_visits file)
unfolding file_visits
visits-narrow further file bytes e = records_narrow further file bytes (few_records further file e) (chain_numbers file) (numbers_good further file e)
