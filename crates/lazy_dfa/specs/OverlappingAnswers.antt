-- What calls of an overlapping search return, how many units they read, and the progress that they report to a cache.
use Rattle.std.specs.Prelude.{◌≡◌, ◌≢◌, ◌⊎◌, ℕ, zero, suc, ◌+◌, ◌-◌, ◌*◌, ◌<◌, ◌≤◌, ◌==◌, ◌&&◌, ◌||◌, not, nat_le, nat_lt, min, Bool, true}
use Rattle.std.specs.Prelude.{false, List, [], ◌∷◌, length, take, Option, Some, None, Result, Ok, Err, IfOk, IfErr, OnOk, if◌then◌else◌, ⊤}
use Rattle.std.specs.Prelude.{slice_set}
use Rattle.std.specs.List.{list_all}
use Rattle.search_types.specs.declared.match_error.MatchErrorKind.{MatchErrorKind}
use Rattle.search_types.specs.declared.match_error.MatchErrorKind.TheVariants.{Quit, GaveUp, HaystackTooLong, UnsupportedAnchored, NotAPair}
use Rattle.search_types.specs.declared.match_error.MatchErrorKind.TheVariants.{NoMemory}
use Rattle.search_types.specs.Inputs.{Search}
use Rattle.search_types.specs.Modes.{is_supported}
use Rattle.search_types.specs.Places.{counts}
use Rattle.nfa_core.specs.Places.{first}
use Rattle.nfa_core.specs.Ways.{offset_of}
use Rattle.determinize_core.specs.States.{StateValue}
use Rattle.determinize_core.specs.Steps.{unit_at}
use Rattle.lazy_dfa.specs.AnewProgress.{IsFresh}
use Rattle.lazy_dfa.specs.Caches.{CacheValue, greatest, distance, progress_len, has_no_room}
use Rattle.lazy_dfa.specs.LeftProgress.{is_quit_error, HasRowOf, FailsFirst}
use Rattle.lazy_dfa.specs.Changes.{Changes, IsMadeAt, IsMadeFirst}
use Rattle.lazy_dfa.specs.declared.overlapping.overlapping_state.Stop.{Stop}
use Rattle.lazy_dfa.specs.declared.overlapping.overlapping_state.OverlappingPosition.{OverlappingPosition}
use Rattle.lazy_dfa.specs.declared.overlapping.overlapping_state.OverlappingPosition.TheVariants.{Fresh, Ended, Failed, Stopped}
use Rattle.lazy_dfa.specs.Dfas.{Dfa, reader}
use Rattle.lazy_dfa.specs.Linked.{CacheGrows, HasCleared, GrowsOrClears}
use Rattle.lazy_dfa.specs.MadeScans.{span_len}
use Rattle.lazy_dfa.specs.Scans.{index_at, is_empty, is_dead, next_value, next_offset, first_value}
use Rattle.lazy_dfa.specs.ScanLaws.{scan_len_of, HasNoQuit}
use Rattle.lazy_dfa.specs.Readers.{Reader}
use Rattle.lazy_dfa.specs.HalfSearchLaws.{begins_at}
use Rattle.lazy_dfa.specs.SearchAnswers.{half_of, GivesUpIn, ProgressValue, progress_of, scan_distance, running_at}
use Rattle.lazy_dfa.specs.Courses.{state_after}
use Rattle.lazy_dfa.specs.ScanOffsets.{came, left_at, last_offset, gave_up_at, scan_start}
use Rattle.lazy_dfa.specs.StartCalls.{rejected_start}
use Rattle.lazy_dfa.specs.Steps.{most_inserts}
use Rattle.lazy_dfa.specs.Overlapping.{Rest, rest_from, whole_rest, rest_of, others, value_past, CanContinue, OverlappingValue}

-- ---- where a call reads

-- How many of n units an overlapping search reads from a state at an offset, if none is a quit byte. It reads until its
-- state is dead, or until its state lists a match at an offset that counts.
abbrev pub units_met : Reader → List ℕ → ℕ → ℕ → StateValue → ℕ
units_met r h zero i v = 0
units_met r h (suc n) i v =
    if is_dead v then 0 else
    if counts r.between_characters h i && not (is_empty (next_value r h i v).matches) then 1 else
    suc (units_met r h n (next_offset r i) (next_value r h i v))

-- the state where a search stopped lists more at its offset, so the next call reads nothing
abbrev pub lists_more : Reader → Search → Stop → Bool
lists_more r q stop = counts r.between_characters q.haystack stop.at && nat_lt stop.index (length (value_past r q stop.at).matches)

-- whether the next call reads on
abbrev pub reads_on : Reader → Search → OverlappingPosition → Bool
reads_on r q Fresh = nat_le q.start q.end && is_supported r.starts_for_each_pattern q.anchored
reads_on r q Ended = false
reads_on r q (Failed e) = false
reads_on r q (Stopped stop) = not (lists_more r q stop || stop.at == last_offset r.automaton.reverse q)

-- the offset at which it reads on
abbrev pub call_offset : Reader → Search → OverlappingPosition → ℕ
call_offset r q (Stopped stop) = next_offset r stop.at
call_offset r q Fresh = begins_at r q
call_offset r q Ended = begins_at r q
call_offset r q (Failed e) = begins_at r q

-- how many units it reads there
abbrev pub units_there : Reader → Search → OverlappingPosition → ℕ
units_there r q Fresh = units_met r q.haystack (suc (span_len q)) (begins_at r q) (first_value r q.anchored q.haystack (begins_at r q))
units_there r q Ended = 0
units_there r q (Failed e) = 0
units_there r q (Stopped stop) = units_met r q.haystack (left_at r.automaton.reverse q stop.at) (next_offset r stop.at)
    (value_past r q stop.at)

abbrev pub call_units : Reader → Search → OverlappingPosition → ℕ
call_units r q w = if reads_on r q w then units_there r q w else 0

-- how many starts it needs
abbrev pub call_starts : Search → OverlappingPosition → ℕ
call_starts q Fresh = if nat_le q.start q.end then 1 else 0
call_starts q Ended = 0
call_starts q (Failed e) = 0
call_starts q (Stopped stop) = 0

-- the most states that it makes
abbrev pub call_made : Reader → Search → OverlappingPosition → ℕ
call_made r q w = call_starts q w + call_units r q w

-- ---- results

-- the result of a call that has these ends to report, and then this error
abbrev pub result_left : List (ℕ × ℕ) → Option MatchErrorKind → Result ⊤ MatchErrorKind
result_left (x ∷ xs) rejection = Ok tt
result_left [] None = Ok tt
result_left [] (Some e) = Err e

-- an overlapping search without the ID by which a cache knows its state
abbrev pub without_id : OverlappingPosition → OverlappingPosition
without_id Fresh = Fresh
without_id Ended = Ended
without_id (Failed e) = Failed e
without_id (Stopped stop) = Stopped (record { id = 0; index = stop.index; at = stop.at })

-- A search that reported an end has stopped at its offset, with an index into its state's list. A search that reported
-- none has ended.
abbrev pub stop_after : ℕ → Option (ℕ × ℕ) → OverlappingPosition
stop_after index None = Ended
stop_after index (Some x) = Stopped (record { id = 0; index = index; at = x.0 })

-- The index after the next end. It is the second index of a state's list, unless the search stopped in a state that
-- lists more.
abbrev pub next_index : Reader → Search → OverlappingPosition → ℕ
next_index r q Fresh = 1
next_index r q Ended = 1
next_index r q (Failed e) = 1
next_index r q (Stopped stop) = if lists_more r q stop then stop.index + 1 else 1

-- where a search is after its next call, unless that call fails
abbrev pub overlapping_after : Reader → Search → OverlappingPosition → OverlappingPosition
overlapping_after r q w = stop_after (next_index r q w) (first (rest_of r q w).ends)

-- A call reports the next end of what is left, stops after it, and leaves the other ends. If no end is left, the call
-- reports none, or it returns the error, which it leaves as it is.
pub record ReportsNext (r : Reader) (q : Search) (w : OverlappingPosition) (new : OverlappingValue) (result : Result ⊤ MatchErrorKind) :
    Type 0 where
  pub answer : result ≡ result_left (rest_of r q w).ends (rest_of r q w).rejection
  pub found : new.found ≡ half_of (first (rest_of r q w).ends)
  pub left : rest_of r q new.walk ≡ others (rest_of r q w)
  pub stops : OnOk result (without_id new.walk ≡ overlapping_after r q w)

-- A call gave up at x. The state in which the search starts, or the state after a unit that the call reads, has no
-- room, and no clear is allowed. Up to then nothing else made it fail, neither at the start of the search nor in the
-- units that the call reads up to that one. At a byte the search is still running, and is there.
pub data GivesUpOn (d : Dfa) (v : CacheValue) (q : Search) (w : OverlappingPosition) (x : ℕ) : Type 0 where
  at_start : w ≡ Fresh → x ≡ begins_at (reader d) q →
      has_no_room d v (first_value (reader d) q.anchored q.haystack (begins_at (reader d) q)) ≡ true →
      rejected_start d (scan_start d q) ≡ None → GivesUpOn d v q w x
  at_unit : (k : ℕ) → k < call_units (reader d) q w →
      x ≡ gave_up_at d.nfa.automaton.reverse q (offset_of d.nfa.automaton.reverse (call_offset (reader d) q w) k) →
      has_no_room d v (value_past (reader d) q (offset_of d.nfa.automaton.reverse (call_offset (reader d) q w) k)) ≡ true →
      (offset_of d.nfa.automaton.reverse (call_offset (reader d) q w) k ≢ last_offset d.nfa.automaton.reverse q →
      running_at v.progress ≡ Some x) →
      (w ≡ Fresh → rejected_start d (scan_start d q) ≡ None) →
      HasNoQuit (reader d) q.haystack (call_offset (reader d) q w) (suc k) →
      GivesUpOn d v q w x

-- A call of an overlapping search reports the next end (`ReportsNext`), whatever the cache holds. Otherwise an allocation
-- failed, or the call gave up, and the cache is as it was then.
abbrev pub AnswersOverlapping : Dfa → CacheValue → Search → OverlappingPosition → OverlappingValue → Result ⊤ MatchErrorKind → Type 0
AnswersOverlapping d v q w new result = ReportsNext (reader d) q w new result ⊎ (result ≡ Err NoMemory) ⊎
    ((x : ℕ) × (result ≡ Err (GaveUp x)) × GivesUpOn d v q w x)

-- the start of an overlapping search isn't rejected, and none of the first n units of its span is a quit byte
abbrev pub StartsQuietly : Dfa → Search → ℕ → Type 0
StartsQuietly d q n = (rejected_start d (scan_start d q) ≡ None) × HasNoQuit (reader d) q.haystack (begins_at (reader d) q) n

-- this holds for the units that the search has read
abbrev pub HasReadQuietly : Dfa → Search → OverlappingPosition → Type 0
HasReadQuietly d q Fresh = ⊤
HasReadQuietly d q Ended = ⊤
HasReadQuietly d q (Failed e) = ⊤
HasReadQuietly d q (Stopped stop) = StartsQuietly d q (suc (came d.nfa.automaton.reverse q stop.at))

-- a failed call fails the search for good
abbrev pub failed_by : MatchErrorKind → OverlappingValue
failed_by e = record { found = None; walk = Failed e }

-- ---- progress

-- A call that reads ends the running search and adds its own length. Any other call reports nothing.
abbrev pub progress_by_call : Reader → Search → OverlappingPosition → ProgressValue → ProgressValue
progress_by_call r q w t =
    if reads_on r q w then record {
      searched = min (t.searched + progress_len t.progress +
          scan_distance r.automaton.reverse (left_at r.automaton.reverse q (call_offset r q w)) (call_units r q w)) greatest;
      progress = None;
    } else t

-- where a call that reads from an offset on is reported to be at its unit k: at that byte, or at the last offset of its
-- span
abbrev pub index_there : Bool → Search → ℕ → ℕ → ℕ
index_there is_reverse q at k = gave_up_at is_reverse q (offset_of is_reverse at k)

-- what is reported at unit k of a search that has been running since unit m, if it goes on and if it ends there
abbrev pub overlapping_running : Bool → Search → ℕ → ℕ → ℕ → ℕ → ProgressValue
overlapping_running is_reverse q at before m k = record {
  searched = before;
  progress = Some (record { start = index_there is_reverse q at m; at = index_there is_reverse q at k });
}

abbrev pub overlapping_done : Bool → Search → ℕ → ℕ → ℕ → ℕ → ProgressValue
overlapping_done is_reverse q at before m k = record {
  searched = min (before + distance (index_there is_reverse q at m) (index_there is_reverse q at k)) greatest;
  progress = None;
}

abbrev pub overlapping_progress : Bool → Bool → Search → ℕ → ℕ → ℕ → ℕ → ProgressValue
overlapping_progress over is_reverse q at before m k = if over then overlapping_done is_reverse q at before m k else overlapping_running
    is_reverse q at before m k

-- Whether the search has ended when a call fails at an offset. It has at a quit byte, and at the last unit.
abbrev pub ends_there : Bool → Bool → Search → ℕ → Bool
ends_there is_reverse quits q at = quits || at == last_offset is_reverse q

-- the progress that a call leaves that fails at unit k, of a search that has been running since unit m
abbrev pub overlapping_left : Bool → Bool → Search → ℕ → ℕ → ℕ → ℕ → ProgressValue
overlapping_left is_reverse quits q at before m k = overlapping_progress (ends_there is_reverse quits q (offset_of is_reverse at k))
    is_reverse q at before m k

-- the state before the unit at an offset of the span, after all units before it
abbrev pub value_before : Reader → Search → ℕ → StateValue
value_before r q at =
    state_after r q.haystack (begins_at r q) (first_value r q.anchored q.haystack (begins_at r q)) (came r.automaton.reverse q at)

-- The errors of a call that fails at the unit at an offset. The unit is a quit byte, or an allocation failed, or the
-- state after the unit has no room and no clear is allowed while the state before it is held.
abbrev pub FailsThere : Dfa → CacheValue → Search → ℕ → MatchErrorKind → Type 0
FailsThere d v q at (Quit b x) =
    (unit_at d.nfa.automaton.reverse q.haystack at ≡ Some b) × (x ≡ index_at d.nfa.automaton.reverse at)
FailsThere d v q at (GaveUp x) = (x ≡ gave_up_at d.nfa.automaton.reverse q at) ×
    HasRowOf v (value_before (reader d) q at) × (has_no_room d v (value_past (reader d) q at) ≡ true)
FailsThere d v q at (HaystackTooLong len) = ⊥
FailsThere d v q at (UnsupportedAnchored mode) = ⊥
FailsThere d v q at NotAPair = ⊥
FailsThere d v q at NoMemory = ⊤

-- The progress that a failed call has reported, if nothing was cleared. It has reported nothing if the search had
-- failed before, or if it fails at its start. Otherwise it fails at a unit that it reads, after units that aren't quit
-- bytes. An error by a quit byte or by a state without room decides which. A search that gives up at its start has no
-- first state, and one that gives up at a unit holds the state before that. A failed allocation doesn't decide it, so
-- the progress is then that of the start or of any unit.
pub data LeavesCall (d : Dfa) (q : Search) (w : OverlappingPosition) (e : MatchErrorKind) (t : ProgressValue) (new : CacheValue) : Type 0
  where
    left_failed : w ≡ Failed e → progress_of new ≡ t → LeavesCall d q w e t new
    left_at_start : w ≡ Fresh → FailsFirst d new q.anchored q.haystack (begins_at (reader d) q) e → progress_of new ≡ t →
        LeavesCall d q w e t new
    left_at_unit : (k : ℕ) → k < call_units (reader d) q w →
        FailsThere d new q (offset_of d.nfa.automaton.reverse (call_offset (reader d) q w) k) e →
        HasNoQuit (reader d) q.haystack (call_offset (reader d) q w) k →
        progress_of new ≡ overlapping_left d.nfa.automaton.reverse (is_quit_error e) q (call_offset (reader d) q w)
        (min (t.searched + progress_len t.progress) greatest) 0 k →
        LeavesCall d q w e t new

-- The progress that a call reports if the cache was last cleared during it. It was cleared with the start of the
-- search, or at unit m, and then the distance from there counts.
pub data ReportsCallAnew (r : Reader) (q : Search) (w : OverlappingPosition) (new : ProgressValue) : Type 0 where
  anew_at_start : w ≡ Fresh → (s : ProgressValue) → IsFresh s → new ≡ progress_by_call r q w s → ReportsCallAnew r q w new
  anew_at : (m : ℕ) → m < call_units r q w → new ≡ overlapping_done r.automaton.reverse q (call_offset r q w) 0 m (call_units r q w - 1) →
      ReportsCallAnew r q w new

-- the progress of such a call that fails
pub data FailsCallAnew (d : Dfa) (q : Search) (w : OverlappingPosition) (e : MatchErrorKind) (new : CacheValue) : Type 0 where
  fails_behind_start : w ≡ Fresh → (s : ProgressValue) → IsFresh s → LeavesCall d q w e s new → FailsCallAnew d q w e new
  fails_behind : (m k : ℕ) → m ≤ k → k < call_units (reader d) q w →
      FailsThere d new q (offset_of d.nfa.automaton.reverse (call_offset (reader d) q w) k) e →
      HasNoQuit (reader d) q.haystack (call_offset (reader d) q w) k →
      progress_of new ≡ overlapping_left d.nfa.automaton.reverse (is_quit_error e) q (call_offset (reader d) q w) 0 m k →
      FailsCallAnew d q w e new

-- the progress since the last clear, if the call succeeds and if it fails
abbrev pub IsCallReportedSince : Dfa → Search → OverlappingPosition → Result ⊤ MatchErrorKind → CacheValue → Type 0
IsCallReportedSince d q w (Ok u) new = ReportsCallAnew (reader d) q w (progress_of new)
IsCallReportedSince d q w (Err e) new = FailsCallAnew d q w e new

-- The progress that a call reports, by its result. If nothing was cleared, it is that of the call. Otherwise it depends
-- on where the cache was cleared.
abbrev pub IsCallReported : Dfa → Search → OverlappingPosition → Result ⊤ MatchErrorKind → CacheValue → CacheValue → Type 0
IsCallReported d q w (Ok u) old new =
    ((progress_of new ≡ progress_by_call (reader d) q w (progress_of old)) × (new.clears ≡ old.clears)) ⊎
    (HasCleared old new × ReportsCallAnew (reader d) q w (progress_of new))
IsCallReported d q w (Err e) old new =
    (LeavesCall d q w e (progress_of old) new × (new.clears ≡ old.clears)) ⊎
    (HasCleared old new × FailsCallAnew d q w e new)

-- ---- reading on

-- what is left of a search that is about to read this unit
abbrev pub rest_at : Reader → Search → ℕ → Rest
rest_at r q at = rest_from r q.haystack (suc (left_at r.automaton.reverse q at)) at (value_before r q at)

-- how many units its next call reads
abbrev pub units_at : Reader → Search → ℕ → ℕ
units_at r q at = units_met r q.haystack (suc (left_at r.automaton.reverse q at)) at (value_before r q at)

-- what reading on from there reports
abbrev pub progress_by_reading : Reader → Search → ℕ → ProgressValue → ProgressValue
progress_by_reading r q at t = record {
  searched = min (t.searched + progress_len t.progress + scan_distance r.automaton.reverse (left_at r.automaton.reverse q at)
      (units_at r q at)) greatest;
  progress = None;
}

-- the progress that reading on reports, by its result
abbrev pub IsReadReported : Dfa → Search → ℕ → Result OverlappingValue MatchErrorKind → CacheValue → CacheValue → Type 0
IsReadReported d q at (Ok w) old new =
    ((progress_of new ≡ progress_by_reading (reader d) q at (progress_of old)) × (new.clears ≡ old.clears)) ⊎
    (HasCleared old new × ((m : ℕ) × (m < units_at (reader d) q at) ×
    (progress_of new ≡ overlapping_done d.nfa.automaton.reverse q at 0 m (units_at (reader d) q at - 1))))
IsReadReported d q at (Err e) old new =
    (k : ℕ) × (k < units_at (reader d) q at) × FailsThere d new q (offset_of d.nfa.automaton.reverse at k) e ×
    HasNoQuit (reader d) q.haystack at k ×
    (((progress_of new ≡ overlapping_left d.nfa.automaton.reverse (is_quit_error e) q at (min (old.searched + progress_len old.progress)
    greatest) 0 k) ×
    (new.clears ≡ old.clears)) ⊎
    (HasCleared old new × ((m : ℕ) × (m ≤ k) × (progress_of new ≡ overlapping_left d.nfa.automaton.reverse (is_quit_error e) q at 0 m k))))

-- the state after a unit that is read from there has no room, and no clear is allowed
pub record GivesUpFrom (d : Dfa) (v : CacheValue) (q : Search) (at x : ℕ) : Type 0 where
  pub unit : ℕ
  pub read : unit < units_at (reader d) q at
  pub place : x ≡ gave_up_at d.nfa.automaton.reverse q (offset_of d.nfa.automaton.reverse at unit)
  pub lacks : has_no_room d v (value_past (reader d) q (offset_of d.nfa.automaton.reverse at unit)) ≡ true
  pub running : offset_of d.nfa.automaton.reverse at unit ≢ last_offset d.nfa.automaton.reverse q → running_at v.progress ≡ Some x
  pub quits : HasNoQuit (reader d) q.haystack at (suc unit)

-- The rest of a search from the unit at an offset up to the next end that counts. That end is reported, and what is
-- left is all that was left except that end.
pub record ReadsOn (d : Dfa) (q : Search) (at : ℕ) (old new : CacheValue) (m1 m2 n1 n2 : ℕ)
    (result : Result OverlappingValue MatchErrorKind) : Type 0 where
  pub ok : IfOk result (λ w. (result_left (rest_at (reader d) q at).ends (rest_at (reader d) q at).rejection ≡ Ok tt) ×
      (w.found ≡ half_of (first (rest_at (reader d) q at).ends)) × (rest_of (reader d) q w.walk ≡ others (rest_at (reader d) q at)) ×
      CanContinue d new q w.walk × (w.found ≡ None → w.walk ≡ Ended) ×
      (without_id w.walk ≡ stop_after 1 (first (rest_at (reader d) q at).ends)))
  pub err : IfErr result (λ e. (result_left (rest_at (reader d) q at).ends (rest_at (reader d) q at).rejection ≡ Err e) ⊎ (e ≡ NoMemory) ⊎
      ((x : ℕ) × (e ≡ GaveUp x) × GivesUpFrom d new q at x))
  pub kept : GrowsOrClears d old new
  pub reported : OnOk result ((CacheGrows d old new × (progress_of new ≡ progress_by_reading (reader d) q at (progress_of old))) ⊎
      HasCleared old new)
  pub determinized : m2 ≤ m1 + units_at (reader d) q at
  pub inserted : n2 ≤ n1 + units_at (reader d) q at * most_inserts d
  pub quits : IfOk result (λ w. StartsQuietly d q (came d.nfa.automaton.reverse q at) → HasReadQuietly d q w.walk)
  pub changes : Changes d (IsMadeAt (reader d) q.haystack at (value_before (reader d) q at) (units_at (reader d) q at)) old new
      (units_at (reader d) q at)
  pub anew : IsReadReported d q at result old new

-- ---- what calls change

-- the state in which a fresh search starts
pub record IsOverlappingStart (d : Dfa) (q : Search) (w : OverlappingPosition) (b : Bool) (o : Option StateValue) (s : StateValue) : Type 0
  where
    pub fresh : w ≡ Fresh
    pub first : IsMadeFirst d q.anchored q.haystack (begins_at (reader d) q) b o s

-- a state of a call: that one, or one after a unit that the call reads
abbrev pub IsMadeOnCall : Dfa → Search → OverlappingPosition → Bool → Option StateValue → StateValue → Type 0
IsMadeOnCall d q w b o s =
    IsOverlappingStart d q w b o s ⊎
    IsMadeAt (reader d) q.haystack (call_offset (reader d) q w) (value_before (reader d) q (call_offset (reader d) q w))
    (call_units (reader d) q w) b o s

-- a state of an overlapping search over a whole span: its first one, or one after a unit of the span
abbrev pub IsMadeOnOverlapping : Dfa → Search → Bool → Option StateValue → StateValue → Type 0
IsMadeOnOverlapping d q b o s =
    IsMadeFirst d q.anchored q.haystack (begins_at (reader d) q) b o s ⊎
    ((b ≡ false) × ((k : ℕ) × (k ≤ span_len q) ×
    (o ≡ Some (state_after (reader d) q.haystack (begins_at (reader d) q)
    (first_value (reader d) q.anchored q.haystack (begins_at (reader d) q)) k)) ×
    (s ≡ state_after (reader d) q.haystack (begins_at (reader d) q)
    (first_value (reader d) q.anchored q.haystack (begins_at (reader d) q)) (suc k))))

-- ---- calls

-- what a call does, from one state of the search to the next
pub record MakesCall (d : Dfa) (q : Search) (old new : CacheValue) (m1 m2 n1 n2 : ℕ) (w : OverlappingPosition) (after : OverlappingValue)
    (result : Result ⊤ MatchErrorKind) : Type 0 where
  pub answer : AnswersOverlapping d new q w after result
  pub walk : CanContinue d new q after.walk
  pub failed : IfErr result (λ e. after ≡ failed_by e)
  pub kept : GrowsOrClears d old new
  pub reported : OnOk result ((CacheGrows d old new × (progress_of new ≡ progress_by_call (reader d) q w (progress_of old))) ⊎
      HasCleared old new)
  pub ends : OnOk result (after.found ≡ None → after.walk ≡ Ended)
  pub still : call_starts q w ≡ 0 → reads_on (reader d) q w ≡ false → ReportsNext (reader d) q w after result
  pub quiet : call_starts q w ≡ 0 → reads_on (reader d) q w ≡ false → (new ≡ old) × (m2 ≡ m1) × (n2 ≡ n1)
  pub determinized : m2 ≤ m1 + call_made (reader d) q w
  pub inserted : n2 ≤ n1 + call_made (reader d) q w * most_inserts d
  pub quits : HasReadQuietly d q w → HasReadQuietly d q after.walk
  pub changes : Changes d (IsMadeOnCall d q w) old new (call_made (reader d) q w)
  pub anew : IsCallReported d q w result old new

-- ---- which patterns

-- the set with one more pattern, if it has room for it
abbrev pub with_pattern : List Bool → ℕ → List Bool
with_pattern set p = if nat_lt p (length set) then slice_set set p true else set

abbrev pub is_full : List Bool → Bool
is_full set = list_all (λ is_member. is_member) set

-- the set with the patterns of all these ends
abbrev pub with_ends : List Bool → List (ℕ × ℕ) → List Bool
with_ends set [] = set
with_ends set (x ∷ xs) = with_ends (with_pattern set x.1) xs

-- a set of patterns, and the error that was met
pub record Which : Type 0 where
  pub set : List Bool
  pub rejection : Option MatchErrorKind

-- The patterns of ends are added one by one, up to the error after them. If the set is full after an end, or if the
-- earliest end is enough, no more ends are searched for.
abbrev pub which_from : Bool → List Bool → List (ℕ × ℕ) → Option MatchErrorKind → Which
which_from earliest set [] rejection = record { set = set; rejection = rejection }
which_from earliest set (x ∷ xs) rejection =
    if earliest || is_full (with_pattern set x.1)
    then record { set = with_pattern set x.1; rejection = None }
    else which_from earliest (with_pattern set x.1) xs rejection

abbrev pub which_of : Reader → Search → List Bool → Which
which_of r q set = which_from q.earliest set (whole_rest r q).ends (whole_rest r q).rejection

-- an overlapping search over a whole span after k of its calls, each of which reported an end
abbrev pub overlapping_after_calls : Reader → Search → ℕ → OverlappingPosition
overlapping_after_calls r q zero = Fresh
overlapping_after_calls r q (suc k) = overlapping_after r q (overlapping_after_calls r q k)

-- An overlapping search over a whole span adds to a set what `which_of` says. Otherwise the call after k others failed
-- to allocate, or gave up. Then the patterns of the k ends were added that those others reported. These are the ends
-- before the unit at which the call gave up.
abbrev pub AnswersWhich : Dfa → CacheValue → Search → List Bool → List Bool → Result ⊤ MatchErrorKind → Type 0
AnswersWhich d v q old new result =
    ((result ≡ result_left [] (which_of (reader d) q old).rejection) × (new ≡ (which_of (reader d) q old).set)) ⊎
    ((k : ℕ) × (k ≤ length (whole_rest (reader d) q).ends) × (new ≡ with_ends old (take k (whole_rest (reader d) q).ends)) ×
    ((result ≡ Err NoMemory) ⊎ ((x : ℕ) × (result ≡ Err (GaveUp x)) × GivesUpOn d v q (overlapping_after_calls (reader d) q k) x ×
    GivesUpIn d v q.anchored false q.haystack (span_len q) (begins_at (reader d) q) x)))

-- How many calls it makes if none fails: one for each end that it needs, and one more if it needs more ends than there
-- are.
abbrev pub calls_for : Bool → List Bool → List (ℕ × ℕ) → ℕ
calls_for earliest set [] = 1
calls_for earliest set (x ∷ xs) =
    if earliest || is_full (with_pattern set x.1) then 1 else suc (calls_for earliest (with_pattern set x.1) xs)

-- what it has reported with its first k calls, if none of them clears the cache: each call reports its own progress
abbrev pub progress_after : Reader → Search → ProgressValue → ℕ → ProgressValue
progress_after r q t zero = t
progress_after r q t (suc k) = progress_by_call r q (overlapping_after_calls r q k) (progress_after r q t k)

-- What they have reported if one of them cleared the cache. That call reports its progress since the clear, and those
-- after it report their own.
pub data ReportedAnew (r : Reader) (q : Search) : ℕ → ProgressValue → Type 0 where
  progress_last : (k : ℕ) (new : ProgressValue) → ReportsCallAnew r q (overlapping_after_calls r q k) new → ReportedAnew r q (suc k) new
  told_before : (k : ℕ) (before new : ProgressValue) → ReportedAnew r q k before →
      new ≡ progress_by_call r q (overlapping_after_calls r q k) before →
      ReportedAnew r q (suc k) new

-- what it has reported if the call after k others fails, and one of these calls cleared the cache
pub data LeftAnew (d : Dfa) (q : Search) (e : MatchErrorKind) (k : ℕ) (new : CacheValue) : Type 0 where
  left_last : FailsCallAnew d q (overlapping_after_calls (reader d) q k) e new → LeftAnew d q e k new
  left_before : (before : ProgressValue) → ReportedAnew (reader d) q k before →
      LeavesCall d q (overlapping_after_calls (reader d) q k) e before new →
      LeftAnew d q e k new

-- what it has reported with its first k calls, with a clear or without one
abbrev pub IsReportedAfter : Reader → Search → ℕ → CacheValue → CacheValue → Type 0
IsReportedAfter r q k old new =
    ((progress_of new ≡ progress_after r q (progress_of old) k) × (new.clears ≡ old.clears)) ⊎ (HasCleared old new ×
    ReportedAnew r q k (progress_of new))

-- what it has reported with its first k calls and the failed one after them
abbrev pub IsLeftAfter : Dfa → Search → MatchErrorKind → ℕ → CacheValue → CacheValue → Type 0
IsLeftAfter d q e k old new =
    (LeavesCall d q (overlapping_after_calls (reader d) q k) e (progress_after (reader d) q (progress_of old) k) new ×
    (new.clears ≡ old.clears)) ⊎
    (HasCleared old new × LeftAnew d q e k new)

-- The progress of an overlapping search over a whole span, by its result. It made all its calls, or it came up to the
-- failed one after k others, whose ends were added.
abbrev pub IsWhichReported : Dfa → Search → List Bool → List Bool → Result ⊤ MatchErrorKind → CacheValue → CacheValue → Type 0
IsWhichReported d q set after (Ok u) old new = IsReportedAfter (reader d) q (calls_for q.earliest set (whole_rest (reader d) q).ends) old
    new
IsWhichReported d q set after (Err e) old new =
    (k : ℕ) × (k ≤ length (whole_rest (reader d) q).ends) × (after ≡ with_ends set (take k (whole_rest (reader d) q).ends)) ×
    IsLeftAfter d q e k old new

-- the most states that it makes: one for its start, and one for each unit of one scan
abbrev pub which_made : Reader → Search → ℕ
which_made r q = if nat_le q.start q.end then suc (scan_len_of r q.anchored false q.haystack (span_len q) (begins_at r q)) else 0

-- What an overlapping search over a whole span guarantees, which adds the patterns of its ends to a set: about the set
-- and its result, its cache and its work. `m1` and `m2` say how many states were made, before and after. `n1` and `n2`
-- say how many NFA states were inserted into sets for them.
pub record MakesWhich (d : Dfa) (q : Search) (old new : CacheValue) (m1 m2 n1 n2 : ℕ) (set after : List Bool)
    (result : Result ⊤ MatchErrorKind) : Type 0 where
  -- it adds the patterns of all ends that it needs, or an allocation failed, or it gave up
  pub answer : AnswersWhich d new q set after result
  -- the cache keeps what it has, or was cleared
  pub kept : GrowsOrClears d old new
  -- it makes at most `which_made` states, and inserts at most `most_inserts` NFA states into sets for each of them
  pub determinized : m2 ≤ m1 + which_made (reader d) q
  pub inserted : n2 ≤ n1 + which_made (reader d) q * most_inserts d
  -- Its states are added one by one, and the cache is cleared only for one of these. After a clear the cache keeps at
  -- most the state from which the step to that state started.
  pub changes : Changes d (IsMadeOnOverlapping d q) old new (which_made (reader d) q)
  -- it reports its progress to the cache, whatever its result is
  pub reported : IsWhichReported d q set after result old new
