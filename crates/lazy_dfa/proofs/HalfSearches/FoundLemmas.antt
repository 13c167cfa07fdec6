-- What a half search finds: what its scan finds from the first of its starting offsets for which the end counts.
use Rattle.std.proofs.Common.{◌≡◌, ℕ, zero, suc, ◌+◌, ◌-◌, ◌<◌, ◌≤◌, Bool, true, false, List, length, Option, Some, None, refl, sym, ap}
use Rattle.std.proofs.Common.{◌∙◌, inl, inr, ⊎_elim, subst, arith, if◌then◌else◌}
use Rattle.std.proofs.lemmas.Bool.{cases_Bool}
use Rattle.std.specs.List.{list_any}
use Rattle.look_core.specs.declared.look.Look.{Look}
use Rattle.search_types.specs.declared.match_kind.MatchKind.TheVariants.{LeftmostFirst}
use Rattle.search_types.specs.declared.anchored.Anchored.{Anchored}
use Rattle.search_types.specs.Modes.{is_anchored}
use Rattle.search_types.specs.Inputs.{Search}
use Rattle.search_types.specs.Places.{counts}
use Rattle.nfa_core.specs.Places.{first}
use Rattle.nfa_core.specs.Nfa.{IsWellFormed}
use Rattle.nfa_core.specs.NfaValue.{is_capture}
use Rattle.nfa_core.specs.Reaches.{read_by}
use Rattle.nfa_core.specs.Ways.{Text, span, is_satisfied, offset_of, bytes_left}
use Rattle.lazy_dfa.specs.Readers.{Reader, HalfAnswer, found}
use Rattle.lazy_dfa.specs.Scans.{next_offset, start_name, scan}
use Rattle.lazy_dfa.specs.HalfSearches.{unless_split, rescans, first_offset, half_search}
use Rattle.lazy_dfa.specs.ScanLaws.{scan_len_of, splits, scan_of}
use Rattle.lazy_dfa.specs.HalfSearchLaws.{IsWanted, begins_at, ends_of, restarts, IsSplitBy, IsFoundBy, IsFound, ends_by, IsFirstFound}
use Rattle.lazy_dfa.specs.HalfSearchLaws.{Splits}
use Rattle.lazy_dfa.specs.HalfSearchLaws.{scans_len, scan_len, ReadsAlike}
use Rattle.lazy_dfa.proofs.HalfSearches.TurnLemmas.{one_found, place_later}
use Rattle.lazy_dfa.proofs.HalfSearches.RestartLemmas.{whole_stays, split_goes, later_first, later_next}
use Rattle.lazy_dfa.proofs.HalfSearches.ScanLemmas.{pass_finds, passes_are, scan_anchored, scan_unanchored, split_found}
use Rattle.lazy_dfa.proofs.HalfSearches.ReachLemmas.{in_first, in_later, len_anchored, len_unanchored}
use Rattle.lazy_dfa.proofs.HalfSearches.ReadingLemmas.{pass_finds_first_anyhow}
use Rattle.nfa_core.proofs.ForCallers.{place_zero}

-- ---- whatever has to be found from each offset

module _ (r : Reader) (q : Search) (fits : q.start ≤ q.end) (wanted : ℕ → Option (ℕ × ℕ) → Type 0)
    (finds : (k : ℕ) (o : Option (ℕ × ℕ)) → k ≤ restarts q.anchored (q.end - q.start) →
    ((m : ℕ) → m < k → Splits r q.anchored q.earliest q.haystack (q.end - q.start) (begins_at r q) m) →
    scan_of r q.anchored q.earliest q.haystack (q.end - q.start) (begins_at r q) k ≡ found o → wanted k o) where
  abbrev len : ℕ
  len = q.end - q.start

  abbrev begin : ℕ
  begin = begins_at r q

  abbrev top : ℕ
  top = restarts q.anchored len

  abbrev nth : ℕ → HalfAnswer
  nth k = scan_of r q.anchored q.earliest q.haystack len begin k

  abbrev split : HalfAnswer → Bool
  split a = splits (counts r.between_characters q.haystack) a

  nth_splits : (k : ℕ) → k ≤ top → ((m : ℕ) → m < k → split (nth m) ≡ true) → split (nth k) ≡ true → IsSplitBy wanted r q k
  nth_splits k up before e = let x = split_found (counts r.between_characters q.haystack) (nth k) e in
      (x.0, finds k (Some x.0) up before x.1, x.2)

  anew : is_anchored q.anchored ≡ false → top ≡ len
  anew a = ap (λ (b : Bool). if b then 0 else len) a

  never_anew : is_anchored q.anchored ≡ true → top ≡ 0
  never_anew a = ap (λ (b : Bool). if b then 0 else len) a

  found_unanchored : (o : Option (ℕ × ℕ)) → is_anchored q.anchored ≡ false → half_search r q ≡ found o → IsFoundBy wanted r q o
  found_unanchored o a is =
      let bound = anew a in
      let all : rescans r q.anchored q.earliest q.haystack len begin ≡ found o = sym (scan_unanchored r q fits a) ∙ is in
      ⊎_elim
      (λ (some : (k : ℕ) × (k ≤ len) × ((m : ℕ) → m < k → split (nth m) ≡ true) × (split (nth k) ≡ false) ×
      (rescans r q.anchored q.earliest q.haystack len begin ≡ nth k)).
      let up = some.1 in
      let there : nth some.0 ≡ found o = sym some.4 ∙ all in
      inl (
        some.0,
        omega (arith, up, bound),
        (λ m l. nth_splits m (omega (arith, l, up, bound)) (λ j less. some.2 j (omega (arith, less, l))) (some.2 m l)),
        finds some.0 o (omega (arith, up, bound)) some.2 there,
        ap split (sym there) ∙ some.3,
      ))
      (λ (none : ((m : ℕ) → m ≤ len → split (nth m) ≡ true) × (rescans r q.anchored q.earliest q.haystack len begin ≡ found None)).
      inr (
        (λ m l. nth_splits m l (λ j less. none.0 j (omega (arith, less, l, bound))) (none.0 m (omega (arith, l, bound)))),
        one_found o None (sym all ∙ none.1),
      ))
      (passes_are r q.anchored q.earliest q.haystack len begin)

  nothing_before : (m : ℕ) → m < 0 → split (nth m) ≡ true
  nothing_before m l = absurd (omega (arith, l))

  found_anchored : (o : Option (ℕ × ℕ)) → is_anchored q.anchored ≡ true → half_search r q ≡ found o → IsFoundBy wanted r q o
  found_anchored o a is =
      let bound = never_anew a in
      let one : unless_split (counts r.between_characters q.haystack) (scan r q.anchored q.earliest q.haystack len begin)
      (found None) ≡ found o =
      sym (scan_anchored r q fits a) ∙ is in
      let same : nth 0 ≡ scan r q.anchored q.earliest q.haystack len begin =
      later_first r q.anchored q.earliest q.haystack len begin in
      ⊎_elim
      (λ (e : split (nth 0) ≡ true).
      inr (
        (λ m l. zero_splits e m (omega (arith, l, bound))),
        one_found o None (sym one
            ∙ split_goes (counts r.between_characters q.haystack) (scan r q.anchored q.earliest q.haystack len begin) (found None)
            (ap split (sym same) ∙ e)),
      ))
      (λ (e : split (nth 0) ≡ false).
      let there : nth 0 ≡ found o = same
      ∙ sym (whole_stays (counts r.between_characters q.haystack) (scan r q.anchored q.earliest q.haystack len begin) (found None)
      (ap split (sym same) ∙ e)) ∙ one in
      inl (
        0,
        omega arith,
        (λ m l. absurd (omega (arith, l))),
        finds 0 o (omega arith) nothing_before there,
        ap split (sym there)
            ∙ e,
      ))
      (cases_Bool (split (nth 0)))
    where
      zero_splits : split (nth 0) ≡ true → (m : ℕ) → m ≡ 0 → IsSplitBy wanted r q m
      zero_splits e m is = subst (λ (k : ℕ). IsSplitBy wanted r q k) (sym is) (nth_splits 0 (omega arith) nothing_before e)

  pub scan_finds_by : (o : Option (ℕ × ℕ)) → half_search r q ≡ found o → IsFoundBy wanted r q o
  scan_finds_by o is = ⊎_elim
      (λ (a : is_anchored q.anchored ≡ true). found_anchored o a is)
      (λ (a : is_anchored q.anchored ≡ false). found_unanchored o a is)
      (cases_Bool (is_anchored q.anchored))

-- ---- what has to be found among the ends of runs

left_is : (is_reverse : Bool) (t : Text) (s e k : ℕ) → t.start ≡ s → t.end ≡ e → s ≤ e → k ≤ e - s →
    e - s - k ≡ bytes_left is_reverse t (offset_of is_reverse (first_offset is_reverse s e) k)
left_is false t s e k a b l up = omega (arith, a, b, l, up)
left_is true t s e k a b l up = omega (arith, a, b, l, up)

place_low : (is_reverse : Bool) (s e k : ℕ) → s ≤ e → k ≤ e - s → offset_of is_reverse (first_offset is_reverse s e) k ≤ e
place_low false s e k l up = omega (arith, l, up)
place_low true s e k l up = omega (arith, l, up)

pub few_restarts : (mode : Anchored) (n k : ℕ) → k ≤ restarts mode n → k ≤ n
few_restarts mode n k l = either (is_anchored mode) n k l
  where
    either : (b : Bool) (n k : ℕ) → k ≤ (if b then 0 else n) → k ≤ n
    either true n k l = omega (arith, l)
    either false n k l = l

module _ (r : Reader) (q : Search) (name : ℕ) (formed : IsWellFormed r.automaton) (fits : q.start ≤ q.end)
    (within : q.end ≤ length q.haystack)
    (named : start_name r.automaton q.anchored ≡ Some name) (low : name < length r.automaton.states) where
  abbrev bytes : ℕ
  bytes = q.end - q.start

  abbrev place : ℕ → ℕ
  place k = offset_of r.automaton.reverse (begins_at r q) k

  abbrev left : ℕ → ℕ
  left k = bytes_left r.automaton.reverse (span r.terminator q.haystack q.start q.end) (place k)

  bytes_there : (k : ℕ) → k ≤ bytes → bytes - k ≡ left k
  bytes_there k up = left_is r.automaton.reverse (span r.terminator q.haystack q.start q.end) q.start q.end k refl refl fits up

  pub nth_finds : (k : ℕ) (o : Option (ℕ × ℕ)) → k ≤ restarts q.anchored bytes →
      scan_of r q.anchored q.earliest q.haystack bytes (begins_at r q) k ≡ found o →
      IsWanted r.kind q.earliest r.automaton.reverse (ends_of r q name k) o
  nth_finds k o few is =
      let up = few_restarts q.anchored bytes k few in
      pass_finds r q.anchored q.earliest q.haystack q.start q.end (place k) name o formed
      (place_low r.automaton.reverse q.start q.end k fits up) within named low r.kind refl
      (subst (λ (m : ℕ). scan r q.anchored q.earliest q.haystack m (place k) ≡ found o) (bytes_there k up) is)

  pub scan_finds : (o : Option (ℕ × ℕ)) → half_search r q ≡ found o → IsFound r q name o
  scan_finds o is = scan_finds_by r q fits (λ k x. IsWanted r.kind q.earliest r.automaton.reverse (ends_of r q name k) x)
      (λ k x few before there. nth_finds k x few there) o is

-- ---- for each interpretation of looks

pub place_add : (is_reverse : Bool) (i m k : ℕ) → offset_of is_reverse (offset_of is_reverse i m) k ≡ offset_of is_reverse i (m + k)
place_add false i m k = omega arith
place_add true i m k = omega arith

-- the units of a scan after a restart are among those that all scans read
module _ (r : Reader) (mode : Anchored) (earliest : Bool) (h : List ℕ) where
  abbrev len_of : ℕ → ℕ → ℕ → ℕ
  len_of n i m = scan_len_of r mode earliest h (n - m) (offset_of r.automaton.reverse i m)

  abbrev is_split : HalfAnswer → Bool
  is_split a = splits (counts r.between_characters h) a

  pub len_first : (n i : ℕ) → len_of n i 0 ≡ scan_len_of r mode earliest h n i
  len_first n i =
      ap (λ (j : ℕ). scan_len_of r mode earliest h (n - 0) j) (place_zero r.automaton.reverse i)
      ∙ ap (λ (d : ℕ). scan_len_of r mode earliest h d i) (zero_off n)
    where
      zero_off : (n : ℕ) → n - 0 ≡ n
      zero_off n = omega arith

  len_next : (n i m : ℕ) → len_of n (next_offset r i) m ≡ len_of (suc n) i (suc m)
  len_next n i m =
      ap (λ (j : ℕ). scan_len_of r mode earliest h (n - m) j) (place_later r.automaton.reverse i m)
      ∙ ap (λ (d : ℕ). scan_len_of r mode earliest h d (offset_of r.automaton.reverse i (suc m))) (one_off n m)
    where
      one_off : (n m : ℕ) → n - m ≡ suc n - suc m
      one_off n m = omega arith

  pub within_passes : (n i m k : ℕ) → m ≤ n → ((j : ℕ) → j < m → Splits r mode earliest h n i j) → k < len_of n i m →
      m + k < scans_len r mode earliest h n i
  within_passes zero i zero k l before less = let same = len_first 0 i in omega (arith, less, same)
  within_passes zero i (suc m) k l before less = absurd (omega (arith, l))
  within_passes (suc n) i zero k l before less =
      let same = len_first (suc n) i in
      in_first (is_split (scan r mode earliest h (suc n) i)) (0 + k) (scan_len_of r mode earliest h (suc n) i)
      (suc (scans_len r mode earliest h n (next_offset r i))) (omega (arith, less, same))
  within_passes (suc n) i (suc m) k l before less =
      let here : is_split (scan r mode earliest h (suc n) i) ≡ true = ap is_split (sym (later_first r mode earliest h (suc n) i))
      ∙ before 0 (omega arith) in
      let same = len_next n i m in
      let rest = within_passes n (next_offset r i) m k (omega (arith, l))
      (λ j lt. ap is_split (later_next r mode earliest h n i j) ∙ before (suc j) (omega (arith, lt))) (omega (arith, less, same)) in
      in_later (is_split (scan r mode earliest h (suc n) i)) (suc m + k) (scan_len_of r mode earliest h (suc n) i)
      (suc (scans_len r mode earliest h n (next_offset r i))) here (omega (arith, rest))

module _ (r : Reader) (q : Search) (name : ℕ) (formed : IsWellFormed r.automaton) (fits : q.start ≤ q.end)
    (within : q.end ≤ length q.haystack)
    (named : start_name r.automaton q.anchored ≡ Some name) (low : name < length r.automaton.states)
    (leftmost : r.kind ≡ LeftmostFirst) (late : q.earliest ≡ false) (plain : list_any is_capture r.automaton.states ≡ false)
    (holds : Look → ℕ → Bool)
    (agree : ReadsAlike r holds q.haystack q.start q.end (begins_at r q) (scan_len r q)) where
  abbrev is_reverse : Bool
  is_reverse = r.automaton.reverse

  abbrev all_bytes : ℕ
  all_bytes = q.end - q.start

  abbrev there : ℕ → ℕ
  there k = offset_of is_reverse (begins_at r q) k

  abbrev left_there : ℕ → ℕ
  left_there k = bytes_left is_reverse (span r.terminator q.haystack q.start q.end) (there k)

  abbrev len_there : ℕ → ℕ
  len_there k = scan_len_of r q.anchored q.earliest q.haystack (all_bytes - k) (there k)

  abbrev BeforeSplits : ℕ → Type 0
  BeforeSplits k = (m : ℕ) → m < k → Splits r q.anchored q.earliest q.haystack all_bytes (begins_at r q) m

  -- a search that never restarts makes one scan
  once : (m k : ℕ) → m ≡ 0 → k < len_there m → m + k < scan_len_of r q.anchored q.earliest q.haystack all_bytes (begins_at r q)
  once zero k is less = let same = len_first r q.anchored q.earliest q.haystack all_bytes (begins_at r q) in
      omega (arith, less, same)
  once (suc m) k is less = absurd (omega (arith, is))

  covered : (m k : ℕ) → m ≤ restarts q.anchored all_bytes → BeforeSplits m → k < len_there m → m + k < scan_len r q
  covered m k few before less = ⊎_elim
      (λ (a : is_anchored q.anchored ≡ true).
      let len = len_anchored r q fits a in
      let none : restarts q.anchored all_bytes ≡ 0 = ap (λ (b : Bool). if b then 0 else all_bytes) a in
      let read = once m k (omega (arith, few, none)) less in omega (arith, read, len))
      (λ (a : is_anchored q.anchored ≡ false).
      let len = len_unanchored r q fits a in
      let read = within_passes r q.anchored q.earliest q.haystack all_bytes (begins_at r q) m k
      (few_restarts q.anchored all_bytes m few) before less in
      omega (arith, read, len))
      (cases_Bool (is_anchored q.anchored))

  same_bytes : (k : ℕ) → k ≤ restarts q.anchored all_bytes → all_bytes - k ≡ left_there k
  same_bytes k few = bytes_there r q name formed fits within named low k (few_restarts q.anchored all_bytes k few)

  same_len : (k : ℕ) → k ≤ restarts q.anchored all_bytes →
      len_there k ≡ scan_len_of r q.anchored false q.haystack (left_there k) (there k)
  same_len k few =
      ap (λ (early : Bool). scan_len_of r q.anchored early q.haystack (all_bytes - k) (there k)) late
      ∙ ap (λ (n : ℕ). scan_len_of r q.anchored false q.haystack n (there k)) (same_bytes k few)

  same_pass : (k : ℕ) → k ≤ restarts q.anchored all_bytes →
      scan r q.anchored q.earliest q.haystack (all_bytes - k) (there k) ≡ scan r q.anchored false q.haystack (left_there k)
      (there k)
  same_pass k few =
      ap (λ (early : Bool). scan r q.anchored early q.haystack (all_bytes - k) (there k)) late
      ∙ ap (λ (n : ℕ). scan r q.anchored false q.haystack n (there k)) (same_bytes k few)

  abbrev IsReadAlike : Look → ℕ → Type 0
  IsReadAlike l j = is_satisfied is_reverse (span r.terminator q.haystack q.start q.end) l j ≡ is_satisfied is_reverse
      (read_by holds q.haystack q.start q.end) l j

  agree_there : (k : ℕ) → k ≤ restarts q.anchored all_bytes → BeforeSplits k → ReadsAlike r holds q.haystack q.start q.end (there k)
      (scan_len_of r q.anchored false q.haystack (left_there k) (there k))
  agree_there k few before l j has less =
      let same = same_len k few in
      subst (λ (p : ℕ). IsReadAlike l p) (sym (place_add is_reverse (begins_at r q) k j))
      (agree l (k + j) has (covered k j few before (omega (arith, less, same))))

  nth_finds_first : (k : ℕ) (o : Option (ℕ × ℕ)) → k ≤ restarts q.anchored all_bytes → BeforeSplits k →
      scan_of r q.anchored q.earliest q.haystack all_bytes (begins_at r q) k ≡ found o → o ≡ first (ends_by r q holds name k)
  nth_finds_first k o few before is =
      pass_finds_first_anyhow r q.anchored q.haystack q.start q.end (there k) name leftmost formed plain
      (place_low is_reverse q.start q.end k fits (few_restarts q.anchored all_bytes k few)) within named low holds
      (agree_there k few before) o
      (sym (same_pass k few) ∙ is)

  pub scan_finds_first : (o : Option (ℕ × ℕ)) → half_search r q ≡ found o → IsFirstFound r q holds name o
  scan_finds_first o is = scan_finds_by r q fits (λ k x. x ≡ first (ends_by r q holds name k))
      (λ k x few before there. nth_finds_first k x few before there) o is
