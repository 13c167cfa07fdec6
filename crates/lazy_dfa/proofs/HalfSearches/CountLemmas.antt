-- How many scans half searches make, and how many units the scans read.
use Rattle.std.proofs.Common.{ℕ, zero, suc, ◌+◌, ◌-◌, ◌*◌, ◌≤◌, Bool, true, false, List, arith, if◌then◌else◌}
use Rattle.std.specs.Bool.{nat_le}
use Rattle.search_types.specs.declared.anchored.Anchored.{Anchored}
use Rattle.search_types.specs.Inputs.{Search}
use Rattle.search_types.specs.Modes.{is_anchored}
use Rattle.search_types.specs.Places.{counts}
use Rattle.lazy_dfa.specs.Readers.{Reader}
use Rattle.lazy_dfa.specs.Scans.{next_offset, scan}
use Rattle.lazy_dfa.specs.ScanLaws.{scan_len_of, splits}
use Rattle.lazy_dfa.specs.HalfSearchLaws.{begins_at, scans_made, units_in_scans, scan_count, unit_count}
use Rattle.lazy_dfa.proofs.HalfSearches.PassQuitLemmas.{pass_units}

-- one more scan if an end doesn't count
one_more : (b : Bool) (m n : ℕ) → m ≤ n → (if b then suc m else 1) ≤ suc n
one_more true m n l = omega (arith, l)
one_more false m n l = omega arith

units_of_more : (b : Bool) (first later made n : ℕ) → first ≤ suc (suc n) → later ≤ made * suc n →
    (if b then first + later else first) ≤ (if b then suc made else 1) * suc (suc n)
units_of_more true first later made n few rest = omega (arith, few, rest)
units_of_more false first later made n few rest = omega (arith, few)

module _ (r : Reader) (mode : Anchored) (earliest : Bool) (h : List ℕ) where
  abbrev split : ℕ → ℕ → Bool
  split n i = splits (counts r.between_characters h) (scan r mode earliest h n i)

  pub few_passes : (n i : ℕ) → scans_made r mode earliest h n i ≤ suc n
  few_passes zero i = omega arith
  few_passes (suc n) i =
      one_more (split (suc n) i) (scans_made r mode earliest h n (next_offset r i)) (suc n) (few_passes n (next_offset r i))

  pub few_units_made : (n i : ℕ) → units_in_scans r mode earliest h n i ≤ scans_made r mode earliest h n i * suc n
  few_units_made zero i = let few = pass_units r mode earliest h 0 i in omega (arith, few)
  few_units_made (suc n) i =
      units_of_more (split (suc n) i) (scan_len_of r mode earliest h (suc n) i) (units_in_scans r mode earliest h n (next_offset r i))
      (scans_made r mode earliest h n (next_offset r i)) n (pass_units r mode earliest h (suc n) i)
      (few_units_made n (next_offset r i))

-- ---- half searches

either_few : (a : Bool) (n made : ℕ) → made ≤ suc n → (if a then 1 else made) ≤ suc n
either_few true n made l = omega arith
either_few false n made l = l

either_units : (a : Bool) (n one made units : ℕ) → one ≤ suc n → units ≤ made * suc n →
    (if a then one else units) ≤ (if a then 1 else made) * suc n
either_units true n one made units few all = omega (arith, few)
either_units false n one made units few all = all

begun_few : (b : Bool) (m top : ℕ) → m ≤ top → (if b then m else 0) ≤ top
begun_few true m top l = l
begun_few false m top l = omega arith

begun_units : (b : Bool) (units made n : ℕ) → units ≤ made * n → (if b then units else 0) ≤ (if b then made else 0) * n
begun_units true units made n l = l
begun_units false units made n l = omega arith

module _ (r : Reader) (q : Search) where
  abbrev n : ℕ
  n = q.end - q.start

  abbrev begun : Bool
  begun = nat_le q.start q.end

  abbrev made : ℕ
  made = scans_made r q.anchored q.earliest q.haystack n (begins_at r q)

  abbrev made_in_mode : ℕ
  made_in_mode = if is_anchored q.anchored then 1 else made

  abbrev one_len : ℕ
  one_len = scan_len_of r q.anchored q.earliest q.haystack n (begins_at r q)

  abbrev units : ℕ
  units = units_in_scans r q.anchored q.earliest q.haystack n (begins_at r q)

  pub few_passes_counted : scan_count r q ≤ suc n
  few_passes_counted = begun_few begun made_in_mode (suc n)
      (either_few (is_anchored q.anchored) n made (few_passes r q.anchored q.earliest q.haystack n (begins_at r q)))

  pub few_units_counted : unit_count r q ≤ scan_count r q * suc n
  few_units_counted = begun_units begun (if is_anchored q.anchored then one_len else units) made_in_mode (suc n)
      (either_units (is_anchored q.anchored) n one_len made units (pass_units r q.anchored q.earliest q.haystack n (begins_at r q))
      (few_units_made r q.anchored q.earliest q.haystack n (begins_at r q)))
