-- Which state has no room if a search gives up.
use Rattle.std.proofs.Common.{◌≡◌, ℕ, ◌+◌, ◌-◌, ◌<◌, ◌≤◌, ◌==◌, Bool, true, false, true≢false, not, ◌&&◌, if◌then◌else◌, List}
use Rattle.std.proofs.Common.{Option, Some, None, refl, sym, ap, ◌∙◌, subst, ⊎_elim, arith}
use Rattle.std.specs.Prelude.{is_none}
use Rattle.std.proofs.lemmas.Bool.{cases_lt, lt-ltb, le-ltb}
use Rattle.search_types.specs.declared.anchored.Anchored.{Anchored}
use Rattle.search_types.specs.declared.match_error.MatchErrorKind.TheVariants.{GaveUp}
use Rattle.search_types.specs.Inputs.{Search}
use Rattle.nfa_core.specs.Ways.{offset_of}
use Rattle.determinize_core.specs.States.{StateValue}
use Rattle.lazy_dfa.specs.Caches.{CacheValue, names_held, row_holding, fits, is_clear_denied, has_no_room}
use Rattle.lazy_dfa.specs.ConfigValue.{clears_of, minimum_bytes_of}
use Rattle.lazy_dfa.specs.Courses.{state_after}
use Rattle.lazy_dfa.specs.declared.overlapping.overlapping_state.OverlappingPosition.TheVariants.{Fresh}
use Rattle.lazy_dfa.specs.Dfas.{Dfa, reader, is_dead}
use Rattle.lazy_dfa.specs.LeftProgress.{HasRowOf, LeavesScan, left_first, left_at_unit}
use Rattle.lazy_dfa.specs.Scans.{index_at, first_value}
use Rattle.lazy_dfa.specs.ScanOffsets.{gave_up_at}
use Rattle.lazy_dfa.specs.HalfSearches.{first_offset}
use Rattle.lazy_dfa.specs.HalfSearchLaws.{begins_at}
use Rattle.lazy_dfa.specs.SearchAnswers.{give_up_offset, ProgressValue, progress_of}
use Rattle.lazy_dfa.specs.OverlappingAnswers.{value_before, LeavesCall, left_failed, left_at_start}
use Rattle.lazy_dfa.specs.OverlappingAnswers.{left_at_unit as left_at_unit_of_call}
use Rattle.lazy_dfa.proofs.CacheChanges.StartChangeLemmas.{not_fresh}
use Rattle.lazy_dfa.proofs.HalfSearches.PassQuitLemmas.{pass_units}
use Rattle.lazy_dfa.proofs.OverlappingWalks.WalkLeftLemmas.{begun_value}

-- ---- states that are held

parts_of : (a b c : Bool) → not a && (b && c) ≡ true → (a ≡ false) × (b ≡ true)
parts_of true b c e = absurd (true≢false (sym e))
parts_of false false c e = absurd (true≢false (sym e))
parts_of false true c e = (refl, refl)

none_of : (o : Option ℕ) → is_none o ≡ true → o ≡ None
none_of None e = refl
none_of (Some k) e = absurd (true≢false (sym e))

pub held_room : (d : Dfa) (v : CacheValue) (s : StateValue) → HasRowOf v s → has_no_room d v s ≡ true → ⊥
held_room d v s held lacks =
    let parts = parts_of (is_dead s) (is_none (row_holding s v.states))
    (not (fits d.capacity s v) && is_clear_denied (clears_of d.options) (minimum_bytes_of d.options) v) lacks in
    not_fresh d v held.0 s (names_held held.1) parts.0 (none_of (row_holding s v.states) parts.1)

-- ---- scans

-- if a scan gives up at a unit, and at the offset of its start, then that is its first unit
first_unit : (is_reverse : Bool) (n i k : ℕ) → (is_reverse ≡ true → n ≤ i) → k ≤ n → i ≡ give_up_offset is_reverse n i k → k ≡ 0
first_unit is_reverse n i k fits le is = ⊎_elim
    (λ (l : k < n). inside is_reverse fits l (is ∙ ap (λ (b : Bool). if b then index_at is_reverse (offset_of is_reverse i k)
    else offset_of is_reverse i k) (lt-ltb k n l)))
    (λ (g : n ≤ k). at_end is_reverse fits (is ∙ ap (λ (b : Bool). if b then index_at is_reverse (offset_of is_reverse i k)
    else offset_of is_reverse i k) (le-ltb k n g)))
    (cases_lt k n)
  where
    inside : (is_reverse : Bool) → (is_reverse ≡ true → n ≤ i) → k < n → i ≡ index_at is_reverse (offset_of is_reverse i k) → k ≡ 0
    inside false fits l e = omega (arith, e)
    inside true fits l e = let f = fits refl in absurd (omega (arith, e, f, l))

    at_end : (is_reverse : Bool) → (is_reverse ≡ true → n ≤ i) → i ≡ offset_of is_reverse i k → k ≡ 0
    at_end false fits e = omega (arith, e)
    at_end true fits e = let f = fits refl in omega (arith, e, f, le)

module _ (d : Dfa) (v : CacheValue) (mode : Anchored) (earliest : Bool) (h : List ℕ) (n i : ℕ) (t : ProgressValue) where
  abbrev first : StateValue
  first = first_value (reader d) mode h i

  pub told_nothing_first : (d.nfa.automaton.reverse ≡ true → n ≤ i) → has_no_room d v first ≡ true →
      LeavesScan d mode earliest h (n, i) (GaveUp i) t v → progress_of v ≡ t
  told_nothing_first fits lacks (left_first refused same) = same
  told_nothing_first fits lacks (left_at_unit k less refused left) =
      let few = pass_units (reader d) mode earliest h n i in
      let zero : k ≡ 0 = first_unit d.nfa.automaton.reverse n i k fits (omega (arith, few, less)) refused.0 in
      absurd (held_room d v first (subst (λ (j : ℕ). HasRowOf v (state_after (reader d) h i first j)) zero refused.1) lacks)

-- ---- calls of an overlapping search

-- if a call gives up at a unit, and at the offset where the search starts, then the unit is the one at the first offset
first_there : (is_reverse : Bool) (q : Search) (k : ℕ) → first_offset is_reverse q.start q.end ≡ gave_up_at is_reverse q
    (offset_of is_reverse (first_offset is_reverse q.start q.end) k) →
    offset_of is_reverse (first_offset is_reverse q.start q.end) k ≡ first_offset is_reverse q.start q.end
first_there false q k is = by (q.start + k == q.end) is
  where
    by : (b : Bool) → q.start ≡ (if b then q.start + k else q.start + k) → q.start + k ≡ q.start
    by true e = sym e
    by false e = sym e
first_there true q k is = by (q.end - k == q.start) is
  where
    by : (b : Bool) → q.end ≡ (if b then q.end - k else q.end - k - 1) → q.end - k ≡ q.end
    by true e = sym e
    by false e = omega (arith, e)

module _ (d : Dfa) (v : CacheValue) (q : Search) (t : ProgressValue) where
  abbrev begun : ℕ
  begun = begins_at (reader d) q

  pub told_nothing_begun : has_no_room d v (first_value (reader d) q.anchored q.haystack begun) ≡ true →
      LeavesCall d q Fresh (GaveUp begun) t v → progress_of v ≡ t
  told_nothing_begun lacks (left_failed failed same) = same
  told_nothing_begun lacks (left_at_start fresh refused same) = same
  told_nothing_begun lacks (left_at_unit_of_call k less refused quiet left) =
      let there = first_there d.nfa.automaton.reverse q k refused.0 in
      absurd (held_room d v (first_value (reader d) q.anchored q.haystack begun)
      (subst (HasRowOf v) (ap (value_before (reader d) q) there ∙ begun_value (reader d) q) refused.1) lacks)
