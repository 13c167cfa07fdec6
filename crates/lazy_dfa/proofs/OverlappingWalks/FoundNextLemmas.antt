-- What is left of an overlapping search for all matches, between two calls too: the ends of runs from where it stopped on.
use Rattle.std.proofs.Common.{◌≡◌, ℕ, zero, suc, ◌+◌, ◌-◌, ◌<◌, ◌≤◌, Bool, true, false, List, [], ◌∷◌, ◌++◌, length, drop, map, Option, Some}
use Rattle.std.proofs.Common.{None, if◌then◌else◌, refl, sym, ap, ◌∙◌, ◌⊎◌, inl, inr, subst, arith}
use Rattle.std.specs.Prelude.{Result, Ok, Err, ⊤}
use Rattle.std.proofs.lemmas.List.{drop-map}
use Rattle.std.specs.List.{filter}
use Rattle.search_core.specs.ByteSets.{has}
use Rattle.search_types.specs.declared.match_error.MatchErrorKind.{MatchErrorKind}
use Rattle.search_types.specs.declared.match_error.MatchErrorKind.TheVariants.{GaveUp, NoMemory, UnsupportedAnchored}
use Rattle.search_types.specs.declared.match_kind.MatchKind.TheVariants.{All as AllMatches}
use Rattle.search_types.specs.Inputs.{Search}
use Rattle.search_types.specs.Places.{counts}
use Rattle.nfa_core.specs.Nfa.{IsWellFormed}
use Rattle.nfa_core.specs.Places.{first}
use Rattle.nfa_core.specs.Ways.{offset_of}
use Rattle.nfa_core.proofs.ForCallers.{place_zero}
use Rattle.determinize_core.specs.States.{StateValue}
use Rattle.determinize_core.specs.Steps.{unit_at, unit_before}
use Rattle.lazy_dfa.specs.Caches.{CacheValue}
use Rattle.lazy_dfa.specs.Courses.{state_after}
use Rattle.lazy_dfa.specs.declared.overlapping.overlapping_state.OverlappingPosition.{OverlappingPosition}
use Rattle.lazy_dfa.specs.declared.overlapping.overlapping_state.OverlappingPosition.TheVariants.{Fresh, Ended, Failed, Stopped}
use Rattle.lazy_dfa.specs.declared.overlapping.overlapping_state.Stop.{Stop}
use Rattle.lazy_dfa.specs.Dfas.{Dfa, IsDfa, reader}
use Rattle.lazy_dfa.specs.HalfSearchLaws.{begins_at, ends_of, HasNoQuitNear}
use Rattle.lazy_dfa.specs.Overlapping.{Rest, CanContinue, OverlappingValue, end_of, listed, nothing_left, others, refused, rest_from, rest_of}
use Rattle.lazy_dfa.specs.Overlapping.{rest_past, value_past, whole_rest}
use Rattle.lazy_dfa.specs.OverlappingAnswers.{AnswersOverlapping, ReportsNext, next_index, overlapping_after, result_left, stop_after, without_id}
use Rattle.lazy_dfa.specs.OverlappingFound.{FindsNextLeft, IsNextLeft, ends_left}
use Rattle.lazy_dfa.specs.OverlappingLaws.{IsBegun, ends_at, ends_by_offset}
use Rattle.lazy_dfa.specs.Readers.{Reader, is_quit}
use Rattle.lazy_dfa.specs.Scans.{first_value, next_offset, next_value, start_name}
use Rattle.lazy_dfa.specs.ScanLaws.{unit_of}
use Rattle.lazy_dfa.specs.ScanOffsets.{IsWithinSpan, came, left_at}
use Rattle.lazy_dfa.specs.SearchAnswers.{half_of}
use Rattle.lazy_dfa.proofs.HalfSearches.HasReachLemmas.{start_is_state}
use Rattle.lazy_dfa.proofs.HalfSearches.LastLemmas.{is_at, pattern}
use Rattle.lazy_dfa.proofs.HalfSearches.NearbyLemmas.{none_at, none_behind}
use Rattle.lazy_dfa.proofs.HalfSearches.PassLemmas.{walk, walk_steps}
use Rattle.lazy_dfa.proofs.HalfSearches.ScanLemmas.{begins_inside}
use Rattle.lazy_dfa.proofs.OverlappingWalks.RestLemmas.{Begins, begins, begins_done, begins_quit, begins_there, begins_unfit, is_no_quit}
use Rattle.lazy_dfa.proofs.OverlappingWalks.RestLemmas.{quiet_goes, rest_done, rest_of_no_pattern}
use Rattle.lazy_dfa.proofs.OverlappingWalks.WalkEndLemmas.{ReportsFaultOf, first_is, listed_is, rest_by_place, states_list, tells_all, tells_until}
use Rattle.lazy_dfa.proofs.OverlappingWalks.WalkEndLemmas.{walk_tells}
use Rattle.lazy_dfa.proofs.OverlappingWalks.WalkPlaceLemmas.{place_came}

-- ---- lists and offsets

nothing_dropped : (n : ℕ) → drop {A = ℕ × ℕ} n [] ≡ []
nothing_dropped zero = refl
nothing_dropped (suc n) = refl

if_dropped : (b : Bool) (n i : ℕ) (ms : List ℕ) →
    (if b then map (end_of i) (drop n ms) else []) ≡ drop n (if b then map (end_of i) ms else [])
if_dropped true n i ms = sym (drop-map (end_of i) n ms)
if_dropped false n i ms = sym (nothing_dropped n)

together : (is_reverse : Bool) (i k m : ℕ) → offset_of is_reverse (offset_of is_reverse i k) m ≡ offset_of is_reverse i (k + m)
together false i k m = omega arith
together true i k m = omega arith

units_there : (is_reverse : Bool) (q : Search) (at : ℕ) → IsWithinSpan q at →
    suc (came is_reverse q at) + left_at is_reverse q at ≡ suc (q.end - q.start)
units_there false q at w = omega (arith, w.0, w.1)
units_there true q at w = omega (arith, w.0, w.1)

-- ---- results

ok_no_error : (u : ⊤) (e : MatchErrorKind) (P : Type 0) → Ok u ≡ Err e → P
ok_no_error u e P is = let never : true ≡ false = cc in absurd (grind (arith, never))

never_fresh : (index : ℕ) (o : Option (ℕ × ℕ)) → without_id Fresh ≡ stop_after index o → ⊥
never_fresh index None is = let never : true ≡ false = cc in absurd (grind (arith, never))
never_fresh index (Some x) is = let never : true ≡ false = cc in absurd (grind (arith, never))

-- ---- what is left

module _ (r : Reader) (q : Search) (name : ℕ) (begun : IsBegun r q name) (wants_all : r.kind ≡ AllMatches)
    (quiet : HasNoQuitNear r q.haystack q.start q.end) where
  abbrev is_reverse : Bool
  is_reverse = r.automaton.reverse

  abbrev from : ℕ
  from = begins_at r q

  abbrev len : ℕ
  len = q.end - q.start

  abbrev counted : ℕ → Bool
  counted = counts r.between_characters q.haystack

  abbrev all : List (ℕ × ℕ)
  all = ends_of r q name 0

  state_is : (k : ℕ) → state_after r q.haystack from (first_value r q.anchored q.haystack from) k ≡ walk r q.haystack from name k
  state_is zero = first_is r q name begun wants_all
  state_is (suc k) = ap (next_value r q.haystack (offset_of is_reverse from k)) (state_is k) ∙ sym (walk_steps r q.haystack from name k)

  -- no unit of the span is a quit byte
  told_all : (d k j : ℕ) (rest : Rest) → j ≡ offset_of is_reverse from k → k + d ≡ suc len →
      ReportsFaultOf r q.haystack all j d rest → rest.ends ≡ ends_by_offset is_reverse counted all j d
  told_all d k j rest at left (tells_all e) = ap (λ (z : Rest). z.ends) e
  told_all d k j rest at left (tells_until m b l u quits none e) =
      absurd (is_no_quit r.quits (unit_of r q.haystack j m) b u quits
      (none_at r q.haystack q.start q.end is_reverse len from (k + m) (offset_of is_reverse j m) quiet
      (begins_inside r q is_reverse q.start q.end begun.begun) (omega (arith, left, l))
      (ap (λ (p : ℕ). offset_of is_reverse p m) at ∙ together is_reverse from k m)))

  -- ---- where it stopped

  module _ (stop : Stop) (within : IsWithinSpan q stop.at) where
    abbrev came_there : ℕ
    came_there = came is_reverse q stop.at

    abbrev left_there : ℕ
    left_there = left_at is_reverse q stop.at

    there : offset_of is_reverse from came_there ≡ stop.at
    there = place_came is_reverse q stop.at within

    units : suc came_there + left_there ≡ suc len
    units = units_there is_reverse q stop.at within

    lists : (value_past r q stop.at).matches ≡ map pattern (filter (is_at stop.at) all)
    lists = ap (λ (v : StateValue). v.matches) (state_is (suc came_there))
        ∙ states_list r q name begun wants_all came_there (let u = units in omega (arith, u))
        ∙ ap (λ (p : ℕ). map pattern (filter (is_at p) all)) there

    here : listed counted stop.at (drop stop.index (value_past r q stop.at).matches) ≡ drop stop.index (ends_at counted all stop.at)
    here = if_dropped (counted stop.at) stop.index stop.at (value_past r q stop.at).matches
        ∙ ap (λ (l : List (ℕ × ℕ)). drop stop.index l) (listed_is counted stop.at (value_past r q stop.at).matches all lists)

    next_there : offset_of is_reverse stop.at 1 ≡ offset_of is_reverse from (suc came_there)
    next_there = ap (λ (p : ℕ). offset_of is_reverse p 1) (sym there) ∙ together is_reverse from came_there 1
        ∙ ap (λ (k : ℕ). offset_of is_reverse from k) (omega arith)

    later : (rest_past r q stop.at).ends ≡ ends_by_offset is_reverse counted all (offset_of is_reverse stop.at 1) left_there
    later = told_all left_there (suc came_there) (offset_of is_reverse stop.at 1) (rest_past r q stop.at) next_there units
        (subst (λ (v : StateValue). ReportsFaultOf r q.haystack all (offset_of is_reverse stop.at 1) left_there
        (rest_from r q.haystack left_there (offset_of is_reverse stop.at 1) v)) (sym (state_is (suc came_there)))
        (walk_tells r q.haystack from len all (walk r q.haystack from name) (walk_steps r q.haystack from name)
        (states_list r q name begun wants_all) left_there (suc came_there) (offset_of is_reverse stop.at 1) next_there units))

    stopped_left : (rest_of r q (Stopped stop)).ends ≡ ends_left r q name (Stopped stop)
    stopped_left = ap (λ (l : List (ℕ × ℕ)). l ++ (rest_past r q stop.at).ends) here
        ∙ ap (λ (l : List (ℕ × ℕ)). drop stop.index (ends_at counted all stop.at) ++ l) later

  -- ---- before its first call

  ok_begins : (u : ⊤) → Ok u ≡ result_left (whole_rest r q).ends (whole_rest r q).rejection → Begins r q →
      (whole_rest r q).rejection ≡ None
  ok_begins u ok (begins_done past is) = let fits = begun.begun in absurd (omega (arith, past, fits))
  ok_begins u ok (begins_quit b l unit quits is) =
      absurd (is_no_quit r.quits (unit_before is_reverse q.haystack from) b unit quits
      (none_behind r q.haystack q.start q.end is_reverse len from quiet (begins_inside r q is_reverse q.start q.end begun.begun)))
  ok_begins u ok (begins_unfit l none unfit is) =
      ok_no_error u (UnsupportedAnchored q.anchored) _ (ok ∙ ap (λ (z : Rest). result_left z.ends z.rejection) is)
  ok_begins u ok (begins_there l none fit is) = quiet_goes r q fit quiet

  -- ---- a call

  module _ (d : Dfa) (v : CacheValue) where
    left_before : (w : OverlappingPosition) (u : ⊤) → Ok u ≡ result_left (rest_of r q w).ends (rest_of r q w).rejection →
        CanContinue d v q w → (rest_of r q w).ends ≡ ends_left r q name w
    left_before Fresh u ok can = rest_by_place r q name begun wants_all (ok_begins u ok (begins r q))
    left_before Ended u ok can = refl
    left_before (Failed e) u ok can = refl
    left_before (Stopped stop) u ok can = stopped_left stop can.within

    left_after : (w : OverlappingPosition) (index : ℕ) (o : Option (ℕ × ℕ)) → without_id w ≡ stop_after index o →
        CanContinue d v q w → (rest_of r q w).ends ≡ ends_left r q name w
    left_after Fresh index o stops can = absurd (never_fresh index o stops)
    left_after Ended index o stops can = refl
    left_after (Failed e) index o stops can = refl
    left_after (Stopped stop) index o stops can = stopped_left stop can.within

-- ---- what a call reports

ok_done : (r : Reader) (d : Dfa) (v : CacheValue) (q : Search) (w : OverlappingPosition) → q.end < q.start → CanContinue d v q w →
    (rest_of r q w).ends ≡ []
ok_done r d v q Fresh past can = ap (λ (z : Rest). z.ends) (rest_done r q past)
ok_done r d v q Ended past can = refl
ok_done r d v q (Failed e) past can = refl
ok_done r d v q (Stopped stop) past can = let a = can.within.0 in let b = can.within.1 in absurd (omega (arith, past, a, b))

module _ (d : Dfa) (q : Search) (old new : CacheValue) (w : OverlappingPosition) (after : OverlappingValue) (made : IsDfa d)
    (within : q.end ≤ length q.haystack) (can : CanContinue d old q w) (goes_on : CanContinue d new q after.walk) where
  abbrev r : Reader
  r = reader d

  begun_there : (name : ℕ) → q.start ≤ q.end → start_name r.automaton q.anchored ≡ Some name → IsBegun r q name
  begun_there name fits named = record {
    formed = made.sound.named;
    begun = fits;
    within = within;
    start = named;
    inside = start_is_state r.automaton q.anchored name made.sound named;
  }

  next_is : (u : ⊤) → ReportsNext r q w after (Ok u) → IsNextLeft r q w after
  next_is u reports = record {
    next = λ name all fits quiet named. reports.found ∙ ap (λ (l : List (ℕ × ℕ)). half_of (first l)) (before name all fits quiet named);
    left = λ name all fits quiet named.
        sym (left_after r q name (begun_there name fits named) all quiet d new after.walk (next_index r q w) (first (rest_of r q w).ends)
        reports.stops goes_on)
        ∙ ap (λ (z : Rest). z.ends) reports.left
        ∙ ap (λ (l : List (ℕ × ℕ)). drop 1 l) (before name all fits quiet named);
    no_pattern = λ fresh none.
        reports.found
        ∙ ap (λ (p : OverlappingPosition). half_of (first (rest_of r q p).ends)) fresh
        ∙ ap (λ (l : List (ℕ × ℕ)). half_of (first l)) (rest_of_no_pattern r q none);
    done = λ past. reports.found ∙ ap (λ (l : List (ℕ × ℕ)). half_of (first l)) (ok_done r d old q w past can);
  }
    where
      before : (name : ℕ) → r.kind ≡ AllMatches → q.start ≤ q.end → HasNoQuitNear r q.haystack q.start q.end →
          start_name r.automaton q.anchored ≡ Some name → (rest_of r q w).ends ≡ ends_left r q name w
      before name all fits quiet named = left_before r q name (begun_there name fits named) all quiet d old w u reports.answer can

  pub finds_next : (result : Result ⊤ MatchErrorKind) → AnswersOverlapping d new q w after result → FindsNextLeft r q w after result
  finds_next (Err e) answers = tt
  finds_next (Ok u) (inl reports) = next_is u reports
  finds_next (Ok u) (inr (inl e)) = ok_no_error u NoMemory _ e
  finds_next (Ok u) (inr (inr g)) = ok_no_error u (GaveUp g.0) _ g.1
