-- How many states an overlapping search over a whole span may still make between two calls. Its calls give up where a scan would.
use Rattle.std.proofs.Common.{◌≡◌, ◌⊎◌, ℕ, zero, suc, ◌+◌, ◌-◌, ◌<◌, ◌≤◌, ◌==◌, ◌&&◌, ◌||◌, Bool, true, false, not, List, [], ◌∷◌, ◌++◌}
use Rattle.std.proofs.Common.{length, map, drop, Option, Some, None, ◌≢◌, refl, sym, ap, ◌∙◌, inl, inr, ⊎_elim, subst, arith, length-append}
use Rattle.std.proofs.Common.{drop_of_length-le, if◌then◌else◌, true≢false, nat_lt, nat_le}
use Rattle.std.specs.Prelude.{⊤}
use Rattle.std.proofs.lemmas.Bool.{cases_lt, cases_Bool, le-ltb, lt-ltb, eqb-true, eq-eqb, ltb-false, leb-true}
use Rattle.search_core.specs.ByteSets.{has}
use Rattle.search_types.specs.declared.match_error.MatchErrorKind.TheVariants.{Quit}
use Rattle.search_types.specs.Inputs.{Search}
use Rattle.search_types.specs.Modes.{is_supported}
use Rattle.search_types.specs.Places.{counts}
use Rattle.nfa_core.specs.Places.{first}
use Rattle.nfa_core.specs.Ways.{offset_of}
use Rattle.determinize_core.specs.States.{StateValue}
use Rattle.determinize_core.specs.Steps.{unit_before}
use Rattle.lazy_dfa.specs.Caches.{CacheValue, has_no_room}
use Rattle.lazy_dfa.specs.Courses.{state_after}
use Rattle.lazy_dfa.specs.declared.overlapping.overlapping_state.Stop.{Stop}
use Rattle.lazy_dfa.specs.declared.overlapping.overlapping_state.OverlappingPosition.{OverlappingPosition}
use Rattle.lazy_dfa.specs.declared.overlapping.overlapping_state.OverlappingPosition.TheVariants.{Fresh, Ended, Failed, Stopped}
use Rattle.lazy_dfa.specs.Dfas.{Dfa, reader}
use Rattle.lazy_dfa.specs.MadeScans.{span_len}
use Rattle.lazy_dfa.specs.Scans.{index_at, index_before_offset, next_offset, first_value}
use Rattle.lazy_dfa.specs.ScanLaws.{units_read, scan_len_of, HasNoQuit}
use Rattle.lazy_dfa.specs.Readers.{Reader}
use Rattle.lazy_dfa.specs.HalfSearches.{first_offset}
use Rattle.lazy_dfa.specs.HalfSearchLaws.{begins_at}
use Rattle.lazy_dfa.specs.SearchAnswers.{give_up_offset, running_at, GivesUpIn, at_start, at_unit}
use Rattle.lazy_dfa.specs.ScanOffsets.{came, left_at, last_offset, gave_up_at, IsWithinSpan, scan_start}
use Rattle.lazy_dfa.specs.StartCalls.{rejected_start}
use Rattle.lazy_dfa.specs.Overlapping.{Rest, nothing_left, refused, unless_quit_at, where_supported, end_of, listed, rest_from, whole_rest}
use Rattle.lazy_dfa.specs.Overlapping.{value_past, rest_past, rest_of}
use Rattle.lazy_dfa.specs.OverlappingAnswers.{units_met, lists_more, reads_on, call_offset, units_there, call_units, call_made, GivesUpOn}
use Rattle.lazy_dfa.specs.OverlappingAnswers.{at_start as on_start, at_unit as on_unit, which_made, StartsQuietly, HasReadQuietly}
use Rattle.lazy_dfa.proofs.OverlappingWalks.WalkQuitLemmas.{no_quit_on}
use Rattle.lazy_dfa.proofs.HalfSearches.TurnLemmas.{place_next}
use Rattle.lazy_dfa.proofs.OverlappingWalks.WhichUnitLemmas.{progress_reached, first_met, read_behind, read_few, met_is_read, listed_place}
use Rattle.lazy_dfa.proofs.OverlappingWalks.WhichUnitLemmas.{no_first}
use Rattle.lazy_dfa.proofs.OverlappingWalks.WhichUnitLemmas.{no_head}
use Rattle.nfa_core.proofs.ForCallers.{place_zero}
use Rattle.lazy_dfa.proofs.HalfSearches.FoundLemmas.{place_add}
use Rattle.lazy_dfa.proofs.OverlappingWalks.WalkPlaceLemmas.{place_came}

-- ---- offsets of a span

pub left_and_came : (is_reverse : Bool) (q : Search) (at : ℕ) → IsWithinSpan q at →
    suc (span_len q) ≡ left_at is_reverse q at + suc (came is_reverse q at)
left_and_came false q at within = let low = within.0 in let high = within.1 in omega (arith, low, high)
left_and_came true q at within = let low = within.0 in let high = within.1 in omega (arith, low, high)

came_of : (is_reverse : Bool) (q : Search) (k : ℕ) → q.start ≤ q.end → k ≤ span_len q →
    came is_reverse q (offset_of is_reverse (first_offset is_reverse q.start q.end) k) ≡ k
came_of false q k fits le = omega (arith, fits, le)
came_of true q k fits le = omega (arith, fits, le)

one_place : (is_reverse : Bool) (q : Search) (k l : ℕ) → q.start ≤ q.end → k ≤ span_len q → l ≤ span_len q →
    offset_of is_reverse (first_offset is_reverse q.start q.end) k ≡ offset_of is_reverse (first_offset is_reverse q.start q.end) l → k ≡ l
one_place is_reverse q k l fits small_k small_l e = sym (came_of is_reverse q k fits small_k) ∙ ap (came is_reverse q) e
    ∙ came_of is_reverse q l fits small_l

is_last : (is_reverse : Bool) (q : Search) (k : ℕ) → q.start ≤ q.end → k ≤ span_len q →
    offset_of is_reverse (first_offset is_reverse q.start q.end) k ≡ last_offset is_reverse q → k ≡ span_len q
is_last false q k fits le e = omega (arith, fits, le, e)
is_last true q k fits le e = omega (arith, fits, le, e)

at_last : (is_reverse : Bool) (q : Search) (k : ℕ) → q.start ≤ q.end → k ≡ span_len q →
    offset_of is_reverse (first_offset is_reverse q.start q.end) k ≡ last_offset is_reverse q
at_last false q k fits e = omega (arith, fits, e)
at_last true q k fits e = omega (arith, fits, e)

-- a call that gives up at a unit gives up there as a scan does
module _ (is_reverse : Bool) (q : Search) (k : ℕ) (fits : q.start ≤ q.end) (le : k ≤ span_len q) where
  abbrev there : ℕ
  there = offset_of is_reverse (first_offset is_reverse q.start q.end) k

  pub same_give_up : gave_up_at is_reverse q there ≡ give_up_offset is_reverse (span_len q) (first_offset is_reverse q.start q.end) k
  same_give_up = ⊎_elim
      (λ (less : k < span_len q).
      ap (λ (b : Bool). if b then there else index_at is_reverse there) (not_last less)
      ∙ sym (ap (λ (b : Bool). if b then index_at is_reverse there else there) (lt-ltb k (span_len q) less)))
      (λ (past : span_len q ≤ k).
      ap (λ (b : Bool). if b then there else index_at is_reverse there)
      (eq-eqb there (last_offset is_reverse q) (at_last is_reverse q k fits (omega (arith, le, past))))
      ∙ sym (ap (λ (b : Bool). if b then index_at is_reverse there else there) (le-ltb k (span_len q) past)))
      (cases_lt k (span_len q))
    where
      not_last : k < span_len q → (there == last_offset is_reverse q) ≡ false
      not_last less = ⊎_elim
          (λ (e : (there == last_offset is_reverse q) ≡ true).
          let same = is_last is_reverse q k fits le (eqb-true there (last_offset is_reverse q) e) in absurd (omega (arith, less, same)))
          (λ (e : (there == last_offset is_reverse q) ≡ false). e)
          (cases_Bool (there == last_offset is_reverse q))

-- ---- an overlapping search that has begun

module _ (r : Reader) (q : Search) where
  abbrev is_reverse : Bool
  is_reverse = r.automaton.reverse

  abbrev begins : ℕ
  begins = begins_at r q

  abbrev start : StateValue
  start = first_value r q.anchored q.haystack begins

  abbrev state : ℕ → StateValue
  state k = state_after r q.haystack begins start k

  abbrev place : ℕ → ℕ
  place k = offset_of is_reverse begins k

  -- the states follow each other
  abbrev steps : (k : ℕ) → state (suc k) ≡ state (suc k)
  steps k = refl

  abbrev rest : ℕ → ℕ → Rest
  rest n k = rest_from r q.haystack n (place k) (state k)

  abbrev met : ℕ → ℕ → ℕ
  met n k = units_met r q.haystack n (place k) (state k)

  abbrev read : ℕ → ℕ → ℕ
  read n k = units_read r false q.haystack n (place k) (state k)

  abbrev units : ℕ
  units = suc (span_len q)

  -- it reads its span from the first offset on
  pub record HasBegun : Type 0 where
    pub fits : nat_le q.start q.end ≡ true
    pub supported : is_supported r.starts_for_each_pattern q.anchored ≡ true
    pub whole : whole_rest r q ≡ rest_from r q.haystack units begins start

  abbrev IsSome : Rest → Type 0
  IsSome all = 0 < length all.ends

  by_mode : (supported : Bool) (all : Rest) → IsSome (where_supported supported q.anchored all) →
      (supported ≡ true) × (where_supported supported q.anchored all ≡ all)
  by_mode true all some = (refl, refl)
  by_mode false all some = absurd (omega (arith, some))

  by_byte : (is : Bool) (b index : ℕ) (all : Rest) → IsSome (if is then refused (Quit b index) else all) →
      (if is then refused (Quit b index) else all) ≡ all
  by_byte true b index all some = absurd (omega (arith, some))
  by_byte false b index all some = refl

  by_unit : (u : Option ℕ) (index : ℕ) (all : Rest) → IsSome (unless_quit_at r.quits u index all) → unless_quit_at r.quits u index all ≡ all
  by_unit None index all some = refl
  by_unit (Some b) index all some = by_byte (has r.quits b) b index all some

  by_span : (b : Bool) (all : Rest) → IsSome (if b then all else nothing_left) → (b ≡ true) × ((if b then all else nothing_left) ≡ all)
  by_span true all some = (refl, refl)
  by_span false all some = absurd (omega (arith, some))

  -- an overlapping search that has an end to report has begun
  pub has_begun : 0 < length (whole_rest r q).ends → HasBegun
  has_begun some =
      let on = rest_from r q.haystack units begins start in
      let moded = where_supported (is_supported r.starts_for_each_pattern q.anchored) q.anchored on in
      let read = unless_quit_at r.quits (unit_before is_reverse q.haystack begins) (index_before_offset is_reverse begins) moded in
      let spanned = by_span (nat_le q.start q.end) read some in
      let read_some : IsSome read = subst IsSome spanned.1 some in
      let quiet = by_unit (unit_before is_reverse q.haystack begins) (index_before_offset is_reverse begins) moded read_some in
      let mode = by_mode (is_supported r.starts_for_each_pattern q.anchored) on (subst IsSome quiet read_some) in
      record { fits = spanned.0; supported = mode.0; whole = spanned.1 ∙ quiet ∙ mode.1 }

-- ---- how many states are made

-- how many states an overlapping search may still make
abbrev pub left_to_make : Reader → Search → OverlappingPosition → ℕ
left_to_make r q Fresh = which_made r q
left_to_make r q Ended = 0
left_to_make r q (Failed e) = 0
left_to_make r q (Stopped stop) = units_read r false q.haystack (left_at r.automaton.reverse q stop.at) (next_offset r stop.at)
    (value_past r q stop.at)

abbrev pub IsWithinWalk : Search → OverlappingPosition → Type 0
IsWithinWalk q Fresh = ⊤
IsWithinWalk q Ended = ⊤
IsWithinWalk q (Failed e) = ⊤
IsWithinWalk q (Stopped stop) = IsWithinSpan q stop.at

-- an overlapping search that stopped has reported an end
abbrev pub IsOn : Reader → Search → OverlappingPosition → Type 0
IsOn r q w = (w ≡ Fresh) ⊎ (0 < length (whole_rest r q).ends)

stopped_is_on : (r : Reader) (q : Search) (stop : Stop) → IsOn r q (Stopped stop) → 0 < length (whole_rest r q).ends
stopped_is_on r q stop (inl e) = absurd (never e)
  where
    never : Stopped stop ≡ Fresh → ⊥
    never e = let no_way : true ≡ false = cc in absurd (grind (arith, no_way))
stopped_is_on r q stop (inr some) = some

few_at_first : (b s : Bool) (met read : ℕ) → met ≤ read →
    (if b then 1 else 0) + (if b && s then met else 0) ≤ (if b then suc (if s then read else 0) else 0)
few_at_first true true met read le = omega (arith, le)
few_at_first true false met read le = omega arith
few_at_first false s met read le = omega arith

few_then : (b : Bool) (met read : ℕ) → met ≤ read → 0 + (if b then met else 0) ≤ read
few_then true met read le = omega (arith, le)
few_then false met read le = omega arith

made_at_first : (b s : Bool) (met : ℕ) → b ≡ true → s ≡ true → (if b then 1 else 0) + (if b && s then met else 0) ≡ suc met
made_at_first true true met is_b is_s = omega arith
made_at_first true false met is_b is_s = absurd (true≢false (sym is_s))
made_at_first false s met is_b is_s = absurd (true≢false (sym is_b))

-- an overlapping search gets at least this many units further, and what is read from there is also read from here
advance : (met here later gap : ℕ) → met ≤ gap → met ≤ here → ((u : ℕ) → u < later → gap + u < here) → met + later ≤ here
advance met here zero gap le few on = omega (arith, few)
advance met here (suc later) gap le few on = let last = on later (omega arith) in omega (arith, le, last)

module _ (r : Reader) (q : Search) where
  read_at_first : units_read r false q.haystack (units r q) (begins r q) (start r q) ≡ read r q (units r q) 0
  read_at_first = ap (λ (i : ℕ). units_read r false q.haystack (units r q) i (start r q))
      (sym (place_zero r.automaton.reverse (begins r q)))

  met_at_first : units_met r q.haystack (units r q) (begins r q) (start r q) ≡ met r q (units r q) 0
  met_at_first = ap (λ (i : ℕ). units_met r q.haystack (units r q) i (start r q)) (sym (place_zero r.automaton.reverse (begins r q)))

  met_first_is_read :
      units_met r q.haystack (units r q) (begins r q) (start r q) ≤ units_read r false q.haystack (units r q) (begins r q) (start r q)
  met_first_is_read =
      let le = met_is_read r q.haystack (begins r q) (state r q) (steps r q) (units r q) 0 in
      let a = read_at_first in let b = met_at_first in omega (arith, le, a, b)

  module _ (stop : Stop) (within : IsWithinSpan q stop.at) where
    abbrev behind : ℕ
    behind = suc (came r.automaton.reverse q stop.at)

    abbrev more : ℕ
    more = left_at r.automaton.reverse q stop.at

    next_is : next_offset r stop.at ≡ place r q behind
    next_is = ap (next_offset r) (sym (place_came r.automaton.reverse q stop.at within))
        ∙ place_next r.automaton.reverse (begins r q) (came r.automaton.reverse q stop.at)

    past_is : rest_past r q stop.at ≡ rest r q more behind
    past_is = ap (λ (i : ℕ). rest_from r q.haystack more i (value_past r q stop.at)) next_is

    met_behind : units_there r q (Stopped stop) ≡ met r q more behind
    met_behind = ap (λ (i : ℕ). units_met r q.haystack more i (value_past r q stop.at)) next_is

    left_behind : left_to_make r q (Stopped stop) ≡ read r q more behind
    left_behind = ap (λ (i : ℕ). units_read r false q.haystack more i (value_past r q stop.at)) next_is

    all_units : units r q ≡ more + behind
    all_units = left_and_came r.automaton.reverse q stop.at within

    met_then_is_read : units_there r q (Stopped stop) ≤ left_to_make r q (Stopped stop)
    met_then_is_read =
        let le = met_is_read r q.haystack (begins r q) (state r q) (steps r q) more behind in
        let a = met_behind in let b = left_behind in omega (arith, le, a, b)

  -- a call makes at most what is left to make
  pub few_made : (w : OverlappingPosition) → IsWithinWalk q w → call_made r q w ≤ left_to_make r q w
  few_made Fresh within =
      few_at_first (nat_le q.start q.end) (is_supported r.starts_for_each_pattern q.anchored)
      (units_met r q.haystack (units r q) (begins r q) (start r q))
      (units_read r false q.haystack (units r q) (begins r q) (start r q)) met_first_is_read
  few_made Ended within = omega arith
  few_made (Failed e) within = omega arith
  few_made (Stopped stop) within = few_then (reads_on r q (Stopped stop)) (units_there r q (Stopped stop))
      (left_to_make r q (Stopped stop)) (met_then_is_read stop within)

-- if a stop has an end to list, it lists more
more_if : (b : Bool) (i index : ℕ) (ms : List ℕ) (y : ℕ × ℕ) (ys : List (ℕ × ℕ)) →
    (if b then map (end_of i) (drop index ms) else []) ≡ y ∷ ys →
    (b && nat_lt index (length ms)) ≡ true
more_if false i index ms y ys e = absurd (no_head y ys e)
more_if true i index ms y ys e = ⊎_elim
    (λ (t : nat_lt index (length ms) ≡ true). t)
    (λ (f : nat_lt index (length ms) ≡ false).
    absurd (no_head y ys (sym (ap (λ (l : List ℕ). map (end_of i) l) (drop_of_length-le ms (ltb-false index (length ms) f))) ∙ e)))
    (cases_Bool (nat_lt index (length ms)))

-- the whole overlapping search reports this end after those that were reported
abbrev IsNext : Reader → Search → List (ℕ × ℕ) → (ℕ × ℕ) → List (ℕ × ℕ) → Type 0
IsNext r q done x left = (whole_rest r q).ends ≡ done ++ x ∷ left

pub some_told : (all done left : List (ℕ × ℕ)) (x : ℕ × ℕ) → all ≡ done ++ x ∷ left → 0 < length all
some_told all done left x e =
    let sum : length all ≡ length done + suc (length left) = ap length e ∙ length-append done (x ∷ left) in omega (arith, sum)

module _ (r : Reader) (q : Search) (done left : List (ℕ × ℕ)) (x : ℕ × ℕ) (next : IsNext r q done x left) where
  abbrev begun : HasBegun r q
  begun = has_begun r q (some_told (whole_rest r q).ends done left x next)

  fits : q.start ≤ q.end
  fits = leb-true q.start q.end begun.fits

  whole_is : whole_rest r q ≡ rest r q (units r q) 0
  whole_is = begun.whole
      ∙ ap (λ (i : ℕ). rest_from r q.haystack (units r q) i (start r q)) (sym (place_zero r.automaton.reverse (begins r q)))

  -- the unit at which the end is reported
  abbrev IsUnitOf : ℕ → Type 0
  IsUnitOf u = (u ≤ span_len q) × (x.0 ≡ place r q u)

  same_unit : (u v : ℕ) → IsUnitOf u → IsUnitOf v → u ≡ v
  same_unit u v a b = one_place r.automaton.reverse q u v fits a.0 b.0 (sym a.1 ∙ b.1)

  -- an overlapping search that has only the ends after this one left stopped there, or later
  abbrev IsAfterByte : Stop → ℕ → Type 0
  IsAfterByte stop u = u ≤ came r.automaton.reverse q stop.at

  not_before : (stop : Stop) → IsWithinSpan q stop.at → (rest_of r q (Stopped stop)).ends ≡ left → (u : ℕ) × IsUnitOf u × IsAfterByte stop u
  not_before stop within same =
      let t = progress_reached r q.haystack (begins r q) (state r q) (steps r q) (units r q) 0 done left x
      (sym (ap (λ (w : Rest). w.ends) whole_is) ∙ next) in
      let less = t.1 in
      let at : 0 + t.0 ≡ t.0 = omega arith in
      let listed_there = listed (counts r.between_characters q.haystack) stop.at (drop stop.index (value_past r q stop.at).matches) in
      let all : length (rest_of r q (Stopped stop)).ends ≡ length listed_there + length (rest_past r q stop.at).ends =
      length-append listed_there (rest_past r q stop.at).ends in
      let some : length (rest_past r q stop.at).ends ≤ length left = let e = ap length same in omega (arith, all, e) in
      let behind_is : length (rest_past r q stop.at).ends ≡ length (rest r q (more r q stop within) (behind r q stop within)).ends =
      ap (λ (w : Rest). length w.ends) (past_is r q stop within) in (
        t.0,
        (omega (arith, less), t.2 ∙ ap (place r q) at),
        ⊎_elim
            (λ (early : came r.automaton.reverse q stop.at < t.0).
            let again = t.3 (behind r q stop within) (more r q stop within) (behind r q stop within) (omega (arith, early))
            (all_units r q stop within) (omega arith) in
            absurd (omega (arith, again, some, behind_is)))
            (λ (late : t.0 ≤ came r.automaton.reverse q stop.at). late)
            (cases_lt (came r.automaton.reverse q stop.at) t.0),
      )

  -- an overlapping search that has only these ends left has begun
  not_fresh : (whole_rest r q).ends ≡ left → ⊥
  not_fresh same =
      let sum : length (whole_rest r q).ends ≡ length done + suc (length left) = ap length next ∙ length-append done (x ∷ left) in
      let e = ap length same in
      omega (arith, sum, e)

  -- ---- from one stop to the next

  made_fresh : call_made r q Fresh ≡ suc (met r q (units r q) 0)
  made_fresh =
      made_at_first (nat_le q.start q.end) (is_supported r.starts_for_each_pattern q.anchored)
      (units_met r q.haystack (units r q) (begins r q) (start r q))
      begun.fits begun.supported ∙ ap suc (met_at_first r q)

  whole_made : which_made r q ≡ suc (read r q (units r q) 0)
  whole_made =
      ap (λ (b : Bool). if b then suc (scan_len_of r q.anchored false q.haystack (span_len q) (begins r q)) else 0) begun.fits
      ∙ ap (λ (b : Bool). suc (if b then units_read r false q.haystack (units r q) (begins r q) (start r q) else 0)) begun.supported
      ∙ ap suc (read_at_first r q)

  -- a stop that is at least this many units after another offset
  module _ (stop : Stop) (within : IsWithinSpan q stop.at) (n k met : ℕ) (all : units r q ≡ n + k)
      (far : k + met ≤ suc (came r.automaton.reverse q stop.at)) (few : met ≤ read r q n k) where
    abbrev gap : ℕ
    gap = suc (came r.automaton.reverse q stop.at) - k

    goes_further : met + left_to_make r q (Stopped stop) ≤ read r q n k
    goes_further =
        let there = left_behind r q stop within in
        let sum = all_units r q stop within in
        let le = advance met (read r q n k) (read r q (more r q stop within) (behind r q stop within)) gap (omega (arith, far)) few
        (λ u less. read_behind r q.haystack (begins r q) (state r q) (steps r q) gap (more r q stop within) n k (behind r q stop within) u
        (omega (arith, sum, all, far)) (omega (arith, far)) less) in
        omega (arith, le, there)

  -- the first call gets this far
  fresh_goes : (stop : Stop) → IsWithinSpan q stop.at → first (whole_rest r q).ends ≡ Some x → (rest_of r q (Stopped stop)).ends ≡ left →
      call_made r q Fresh + left_to_make r q (Stopped stop) ≤ left_to_make r q Fresh
  fresh_goes stop within e same =
      let met_here = first_met r q.haystack (begins r q) (state r q) (steps r q) (units r q) 0 x
      (sym (ap (λ (w : Rest). first w.ends) whole_is) ∙ e) in
      let at : 0 + met_here.0 ≡ met_here.0 = omega arith in
      let less = met_here.1 in
      let t = not_before stop within same in
      let u = same_unit t.0 met_here.0 t.1 (omega (arith, less), met_here.3 ∙ ap (place r q) at) in
      let late = t.2 in
      let count = met_here.2 in
      let le = goes_further stop within (units r q) 0 (met r q (units r q) 0) (omega arith) (omega (arith, late, u, count))
      (met_is_read r q.haystack (begins r q) (state r q) (steps r q) (units r q) 0) in
      let made = made_fresh in
      let all = whole_made in
      omega (arith, le, made, all)

  -- each later call gets this far
  module _ (here : Stop) (near : IsWithinSpan q here.at) (stop : Stop) (within : IsWithinSpan q stop.at)
      (same : (rest_of r q (Stopped stop)).ends ≡ left) where
    abbrev listed_here : List (ℕ × ℕ)
    listed_here = listed (counts r.between_characters q.haystack) here.at (drop here.index (value_past r q here.at).matches)

    abbrev Goes : Type 0
    Goes = call_made r q (Stopped here) + left_to_make r q (Stopped stop) ≤ left_to_make r q (Stopped here)

    few_there : (b : Bool) (met later now : ℕ) → met + later ≤ now → 0 + (if b then met else 0) + later ≤ now
    few_there true met later now le = omega (arith, le)
    few_there false met later now le = omega (arith, le)

    -- the state there lists no more, so the call reads on
    reads : listed_here ≡ [] → first (rest_of r q (Stopped here)).ends ≡ Some x → Goes
    reads none e =
        let on : first (rest r q (more r q here near) (behind r q here near)).ends ≡ Some x =
        sym (ap (λ (w : Rest). first w.ends) (past_is r q here near))
        ∙ sym (ap (λ (l : List (ℕ × ℕ)). first (l ++ (rest_past r q here.at).ends)) none) ∙ e in
        let met_here = first_met r q.haystack (begins r q) (state r q) (steps r q) (more r q here near) (behind r q here near) x on in
        let less = met_here.1 in
        let count = met_here.2 in
        let sum = all_units r q here near in
        let t = not_before stop within same in
        let u = same_unit t.0 (behind r q here near + met_here.0) t.1 (omega (arith, less, sum), met_here.3) in
        let late = t.2 in
        let le = goes_further stop within (more r q here near) (behind r q here near)
        (met r q (more r q here near) (behind r q here near)) sum
        (omega (arith, late, u, count))
        (met_is_read r q.haystack (begins r q) (state r q) (steps r q) (more r q here near) (behind r q here near)) in
        let units_there_is = met_behind r q here near in
        let left_there_is = left_behind r q here near in
        few_there (reads_on r q (Stopped here)) (units_there r q (Stopped here)) (left_to_make r q (Stopped stop))
        (left_to_make r q (Stopped here))
        (omega (arith, le, units_there_is, left_there_is))

    -- it lists more, so the call reads nothing
    reports : (y : ℕ × ℕ) (ys : List (ℕ × ℕ)) → listed_here ≡ y ∷ ys → first (rest_of r q (Stopped here)).ends ≡ Some x → Goes
    reports y ys is e =
        let head : Some y ≡ Some x = sym (ap (λ (l : List (ℕ × ℕ)). first (l ++ (rest_past r q here.at).ends)) is) ∙ e in
        let same_end : y ≡ x = cc in
        let place_is : x.0 ≡ here.at = sym (ap (λ (z : ℕ × ℕ). z.0) same_end)
        ∙ listed_place (counts r.between_characters q.haystack) here.at (drop here.index (value_past r q here.at).matches) y ([], ys, is) in
        let sum = all_units r q here near in
        let t = not_before stop within same in
        let u = same_unit t.0 (came r.automaton.reverse q here.at) t.1
        (omega (arith, sum), place_is ∙ sym (place_came r.automaton.reverse q here.at near)) in
        let late = t.2 in
        let le = goes_further stop within (more r q here near) (behind r q here near) 0 sum (omega (arith, late, u)) (omega arith) in
        let left_there_is = left_behind r q here near in
        let lists : lists_more r q here ≡ true =
        more_if (counts r.between_characters q.haystack here.at) here.at here.index (value_past r q here.at).matches y ys is in
        let still : reads_on r q (Stopped here) ≡ false = ap (λ (b : Bool). not (b || here.at == last_offset r.automaton.reverse q)) lists
        in
        let none : call_made r q (Stopped here) ≡ 0 + 0 = ap (λ (b : Bool). 0 + (if b then units_there r q (Stopped here) else 0)) still in
        omega (arith, le, left_there_is, none)

    by_list : (l : List (ℕ × ℕ)) → listed_here ≡ l → first (rest_of r q (Stopped here)).ends ≡ Some x → Goes
    by_list [] is e = reads is e
    by_list (y ∷ ys) is e = reports y ys is e

    stop_goes : first (rest_of r q (Stopped here)).ends ≡ Some x → Goes
    stop_goes e = by_list listed_here refl e

  abbrev Spends : OverlappingPosition → OverlappingPosition → Type 0
  Spends w new = call_made r q w + left_to_make r q new ≤ left_to_make r q w

  nothing_more : (w : OverlappingPosition) → IsWithinWalk q w → call_made r q w + 0 ≤ left_to_make r q w
  nothing_more w within = let few = few_made r q w within in omega (arith, few)

  stop_spends : (w : OverlappingPosition) (stop : Stop) → IsWithinWalk q w → IsWithinSpan q stop.at → first (rest_of r q w).ends ≡ Some x →
      (rest_of r q (Stopped stop)).ends ≡ left → Spends w (Stopped stop)
  stop_spends Fresh stop near within e same = fresh_goes stop within e same
  stop_spends Ended stop near within e same = absurd (no_first x e)
  stop_spends (Failed kind) stop near within e same = absurd (no_first x e)
  stop_spends (Stopped here) stop near within e same = stop_goes here near stop within same e

  -- what a call makes, together with what is then left to make, was left to make before
  pub spends : (w new : OverlappingPosition) → IsWithinWalk q w → IsWithinWalk q new → first (rest_of r q w).ends ≡ Some x →
      (rest_of r q new).ends ≡ left → Spends w new
  spends w Fresh near within e same = absurd (not_fresh same)
  spends w Ended near within e same = nothing_more w near
  spends w (Failed kind) near within e same = nothing_more w near
  spends w (Stopped stop) near within e same = stop_spends w stop near within e same

-- ---- giving up

whole_units : (b s : Bool) (k met : ℕ) → k < (if b && s then met else 0) → (b ≡ true) × (s ≡ true) × (k < met)
whole_units true true k met less = (refl, refl, less)
whole_units true false k met less = absurd (omega (arith, less))
whole_units false s k met less = absurd (omega (arith, less))

then_units : (b : Bool) (k met : ℕ) → k < (if b then met else 0) → k < met
then_units true k met less = less
then_units false k met less = absurd (omega (arith, less))

module _ (d : Dfa) (v : CacheValue) (q : Search) (x : ℕ) where
  abbrev r : Reader
  r = reader d

  abbrev GivesUp : Type 0
  GivesUp = GivesUpIn d v q.anchored false q.haystack (span_len q) (begins_at (reader d) q) x

  abbrev GivesUpThere : ℕ → Type 0
  GivesUpThere at =
      (x ≡ gave_up_at r.automaton.reverse q at) × (has_no_room d v (value_past r q at) ≡ true) ×
      (at ≢ last_offset r.automaton.reverse q → running_at v.progress ≡ Some x)

  gives_up_at : (m : ℕ) → q.start ≤ q.end → is_supported r.starts_for_each_pattern q.anchored ≡ true → m < read r q (units r q) 0 →
      StartsQuietly d q (suc m) → GivesUpThere (place r q m) → GivesUp
  gives_up_at m fits supported less quiet there =
      let few = read_few r q.haystack (begins r q) (state r q) (steps r q) (units r q) 0 in
      let small : m ≤ span_len q = omega (arith, less, few) in
      let all : scan_len_of r q.anchored false q.haystack (span_len q) (begins r q) ≡ read r q (units r q) 0 =
      ap (λ (b : Bool). if b then units_read r false q.haystack (units r q) (begins r q) (start r q) else 0) supported
      ∙ read_at_first r q in
      at_unit m (omega (arith, less, all)) (there.0 ∙ same_give_up r.automaton.reverse q m fits small)
      (sym (ap (λ (k : ℕ). has_no_room d v (state r q (suc k))) (came_of r.automaton.reverse q m fits small)) ∙ there.1)
      (λ before. there.2 (λ last. let end = is_last r.automaton.reverse q m fits small last in absurd (omega (arith, before, end)))) quiet.0
      quiet.1

  at_first_units : (k : ℕ) → k < call_units r q Fresh → StartsQuietly d q (suc k) →
      GivesUpThere (offset_of r.automaton.reverse (call_offset r q Fresh) k) → GivesUp
  at_first_units k less quiet there =
      let on = whole_units (nat_le q.start q.end) (is_supported r.starts_for_each_pattern q.anchored) k
      (units_met r q.haystack (units r q) (begins r q) (start r q)) less in
      let here = on.2 in
      let few = met_first_is_read r q in
      let all = read_at_first r q in
      gives_up_at k (leb-true q.start q.end on.0) on.1 (omega (arith, here, few, all)) quiet there

  at_stop_units : (stop : Stop) (k : ℕ) → IsOn r q (Stopped stop) → IsWithinSpan q stop.at → k < call_units r q (Stopped stop) →
      HasReadQuietly d q (Stopped stop) → HasNoQuit r q.haystack (call_offset r q (Stopped stop)) (suc k) →
      GivesUpThere (offset_of r.automaton.reverse (call_offset r q (Stopped stop)) k) → GivesUp
  at_stop_units stop k on within less quiet quits there =
      let begun = has_begun r q (stopped_is_on r q stop on) in
      let here = then_units (reads_on r q (Stopped stop)) k (units_there r q (Stopped stop)) less in
      let few = met_then_is_read r q stop within in
      let left = left_behind r q stop within in
      let later = read_behind r q.haystack (begins r q) (state r q) (steps r q) (behind r q stop within) (more r q stop within)
      (units r q) 0 (behind r q stop within) k
      (all_units r q stop within) (omega arith) (omega (arith, here, few, left)) in
      let place_is : offset_of r.automaton.reverse (call_offset r q (Stopped stop)) k ≡ place r q (behind r q stop within + k) =
      ap (λ (i : ℕ). offset_of r.automaton.reverse i k) (next_is r q stop within)
      ∙ place_add r.automaton.reverse (begins r q) (behind r q stop within) k in
      gives_up_at (behind r q stop within + k) (leb-true q.start q.end begun.fits) begun.supported later (
        quiet.0,
        quiet_later (no_quit_on r q.haystack (begins r q) (next_offset r stop.at) (behind r q stop within) (suc k)
            (next_is r q stop within) quiet.1 quits),
      ) (subst GivesUpThere place_is there)
    where
      quiet_later : HasNoQuit r q.haystack (begins r q) (suc (came r.automaton.reverse q stop.at) + suc k) →
          HasNoQuit r q.haystack (begins r q) (suc (suc (came r.automaton.reverse q stop.at) + k))
      quiet_later all m less = all m (omega (arith, less))

  by_walk : (w : OverlappingPosition) (k : ℕ) → IsOn r q w → IsWithinWalk q w → HasReadQuietly d q w → k < call_units r q w →
      (w ≡ Fresh → rejected_start d (scan_start d q) ≡ None) → HasNoQuit r q.haystack (call_offset r q w) (suc k) →
      GivesUpThere (offset_of r.automaton.reverse (call_offset r q w) k) → GivesUp
  by_walk Fresh k on within quiet less free quits there = at_first_units k less (free refl, quits) there
  by_walk Ended k on within quiet less free quits there = absurd (omega (arith, less))
  by_walk (Failed e) k on within quiet less free quits there = absurd (omega (arith, less))
  by_walk (Stopped stop) k on within quiet less free quits there = at_stop_units stop k on within less quiet quits there

  -- if a call gives up, it does so as a scan over the whole span would
  pub gives_up : (w : OverlappingPosition) → IsOn r q w → IsWithinWalk q w → HasReadQuietly d q w → GivesUpOn d v q w x → GivesUp
  gives_up w on within quiet (on_start fresh place lacks free) = at_start place lacks free
  gives_up w on within quiet (on_unit k less place lacks runs free quits) =
      by_walk w k on within quiet less free quits (place, lacks, runs)
