-- Where a scan is in its span, turn by turn, and how it ends.
use Rattle.std.specs.Prelude.{◌≡◌, ◌≢◌, ◌⊎◌, ℕ, suc, ◌+◌, ◌-◌, ◌*◌, ◌<◌, ◌≤◌, ◌==◌, ◌&&◌, not, nat_le, min, Bool, true, false, List, Option}
use Rattle.std.specs.Prelude.{Some, None, Result, Ok, Err, IfOk, IfErr, OnOk, if◌then◌else◌}
use Rattle.search_core.specs.ByteSets.{has}
use Rattle.nfa_core.specs.Ways.{offset_of}
use Rattle.determinize_core.specs.States.{StateValue}
use Rattle.determinize_core.specs.Starts.{StartValue}
use Rattle.determinize_core.specs.Steps.{unit_at}
use Rattle.search_types.specs.declared.match_error.MatchErrorKind.{MatchErrorKind}
use Rattle.search_types.specs.declared.match_error.MatchErrorKind.TheVariants.{Quit, GaveUp, HaystackTooLong, UnsupportedAnchored, NotAPair}
use Rattle.search_types.specs.declared.match_error.MatchErrorKind.TheVariants.{NoMemory}
use Rattle.search_types.specs.Found.{HalfFound}
use Rattle.search_types.specs.Inputs.{Search}
use Rattle.lazy_dfa.specs.AnewProgress.{anew_if, cut_progress, IsFresh, CutAt}
use Rattle.lazy_dfa.specs.Caches.{CacheValue, HeldAt, IsRow, Names, greatest, progress_len, moved_to, has_no_room}
use Rattle.lazy_dfa.specs.Changes.{Changes, IsMadeAt}
use Rattle.lazy_dfa.specs.Courses.{state_after, HasNoStop, stops_after}
use Rattle.lazy_dfa.specs.declared.cache_error.CacheError.{CacheError}
use Rattle.lazy_dfa.specs.declared.cache_error.CacheError.TheVariants.{GaveUp as StepGaveUp, NoMemory as StepNoMemory}
use Rattle.lazy_dfa.specs.declared.search.position.Position.{Position}
use Rattle.lazy_dfa.specs.declared.search.passing.Turned.{Turned}
use Rattle.lazy_dfa.specs.Dfas.{Dfa, reader, start_in}
use Rattle.lazy_dfa.specs.Ids.{unknown_id}
use Rattle.lazy_dfa.specs.LeftProgress.{progress_reached, progress_finished, is_quit_error, FailsAtUnit, LeftAt}
use Rattle.lazy_dfa.specs.Linked.{IsLinkedOver, CacheGrows, HasCleared, GrowsOrClears, IsMoved, start_from}
use Rattle.lazy_dfa.specs.MadeScans.{span_len}
use Rattle.lazy_dfa.specs.Scans.{index_at, is_dead, first_value, scan, pass_from}
use Rattle.lazy_dfa.specs.ScanLaws.{units_read, HasNoQuit}
use Rattle.lazy_dfa.specs.Points.{Point, GoesTo, began}
use Rattle.lazy_dfa.specs.Readers.{is_quit}
use Rattle.lazy_dfa.specs.HalfSearches.{first_offset}
use Rattle.lazy_dfa.specs.HalfSearchLaws.{begins_at}
pub use Rattle.lazy_dfa.specs.SearchAnswers.{progress_past}
use Rattle.lazy_dfa.specs.SearchAnswers.{pair_of, reported, give_up_offset, ProgressValue, progress_of, scan_distance, running_at}
use Rattle.lazy_dfa.specs.StartCalls.{mode_of, rejected_start, start_noted, IsStartKnown, StartAdds}
use Rattle.lazy_dfa.specs.Steps.{Grew, WasCleared, most_inserts}
use Rattle.lazy_dfa.specs.ScanSteps.{GoesOne, Leaves, FailsOn}

-- ---- offsets of a span

-- the last offset of a span, forward or in reverse
abbrev pub last_offset : Bool → Search → ℕ
last_offset false q = q.end
last_offset true q = q.start

-- how many bytes of the span are read at an offset, and how many are left
abbrev pub came : Bool → Search → ℕ → ℕ
came false q i = i - q.start
came true q i = q.end - i

abbrev pub left_at : Bool → Search → ℕ → ℕ
left_at false q i = q.end - i
left_at true q i = i - q.start

abbrev pub IsWithinSpan : Search → ℕ → Type 0
IsWithinSpan q i = (q.start ≤ i) × (i ≤ q.end)

-- whether a scan reports its progress to a cache; in reverse over no bytes it doesn't
abbrev pub reports : Bool → Search → Bool
reports is_reverse q = not (is_reverse && nat_le q.end q.start)

-- the index of the first byte of a scan
abbrev pub first_index : Bool → Search → ℕ
first_index is_reverse q = index_at is_reverse (first_offset is_reverse q.start q.end)

-- The running search began with the scan. After a clear it has restarted its count instead.
abbrev pub BeganFirst : Bool → Search → CacheValue → Type 0
BeganFirst is_reverse q v = reports is_reverse q ≡ true → began v.progress ≡ Some (first_index is_reverse q)

-- the running search has just begun
abbrev pub BeginsFirst : Bool → Search → CacheValue → Type 0
BeginsFirst is_reverse q v = reports is_reverse q ≡ true → v.progress ≡ Some (record {
  start = first_index is_reverse q;
  at = first_index is_reverse q;
})

-- the progress that a cache keeps once a scan has reported where it begins
abbrev pub progress_begun : Bool → Search → ProgressValue → ProgressValue
progress_begun is_reverse q t =
    if reports is_reverse q
    then record {
      searched = min (t.searched + progress_len t.progress) greatest;
      progress = Some (record { start = first_index is_reverse q; at = first_index is_reverse q });
    }
    else t

-- The running search ends at this offset, and its length is added. The second function does this only if it is wanted.
abbrev pub finished : ℕ → CacheValue → CacheValue
finished at v = record v { searched = min (v.searched + progress_len (moved_to at v.progress)) greatest; progress = None }

abbrev pub finished_where : Bool → ℕ → CacheValue → CacheValue
finished_where wanted at v = if wanted then finished at v else v

-- the error of a search, from that of a step
abbrev pub error_of : ℕ → CacheError → MatchErrorKind
error_of place StepGaveUp = GaveUp place
error_of place StepNoMemory = NoMemory

-- ---- turns in a span

-- a scan goes from one point to another through k units, and stops nowhere between
abbrev pub GoesBetween : Dfa → Bool → List ℕ → Point → Point → ℕ → Type 0
GoesBetween d earliest h from to k = GoesTo d h from to k ×
    ((s : StateValue) → HeldAt from.cache from.id s → HasNoStop (reader d) earliest h from.at s k)

-- the offset that a scan reports if it gives up at an offset
abbrev pub gave_up_at : Bool → Search → ℕ → ℕ
gave_up_at is_reverse q at = if at == last_offset is_reverse q then at else index_at is_reverse at

-- The progress after a turn at a byte, with which the cache may be cleared. The byte is reported before it is read. If
-- `finishes`, the search ends there.
abbrev pub progress_byte : Bool → Bool → Bool → ℕ → ProgressValue → ProgressValue
progress_byte is_reverse finishes cleared at t =
    if finishes then progress_finished (index_at is_reverse at) (anew_if cleared (progress_reached (index_at is_reverse at) t))
    else anew_if cleared (progress_reached (index_at is_reverse at) t)

-- The progress after the last turn. In reverse the search has ended before it. Forward the search ends with the scan.
abbrev pub progress_last : Bool → Bool → Bool → Search → ℕ → ProgressValue → ProgressValue
progress_last true ends cleared q at t = anew_if cleared (if reports true q then progress_finished at t else t)
progress_last false ends cleared q at t = if ends then progress_finished at (anew_if cleared t) else anew_if cleared t

-- The progress after any turn, which may end the search at a byte, or end the scan.
abbrev pub turned_progress : Bool → Bool → Bool → Bool → Search → ℕ → ProgressValue → ProgressValue
turned_progress is_reverse finishes ends cleared q at t =
    if at == last_offset is_reverse q then progress_last is_reverse ends cleared q at t else progress_byte is_reverse finishes cleared at t

-- the progress that a turn reports, whether it cleared the cache or not
abbrev pub ReportsTurn : Dfa → Bool → Bool → Search → ℕ → CacheValue → CacheValue → Type 0
ReportsTurn d finishes ends q at old new =
    ((progress_of new ≡ turned_progress d.nfa.automaton.reverse finishes ends false q at (progress_of old)) × (new.clears ≡ old.clears)) ⊎
    (HasCleared old new × (progress_of new ≡ turned_progress d.nfa.automaton.reverse finishes ends true q at (progress_of old)))

-- A scan ends with the turn at a point, and with this match. It has reported its offset to its cache, before the step
-- or after it.
pub record EndsWith (d : Dfa) (q : Search) (from : Point) (new : CacheValue) (m n : ℕ) (best : Option (ℕ × ℕ)) : Type 0 where
  pub before : CacheValue
  pub behind : CacheValue
  pub id : ℕ
  pub begun : IsMoved from.cache before
  pub goes : GoesOne d q.haystack (record from { cache = before }) behind m n id best
  pub ended : IsMoved behind new
  pub reported : BeganFirst d.nfa.automaton.reverse q from.cache →
      (progress_of new ≡ progress_past d.nfa.automaton.reverse (span_len q) (progress_of from.cache) (suc (came d.nfa.automaton.reverse q
      from.at))) ⊎
      HasCleared from.cache new
  pub why : (s : StateValue) → HeldAt from.cache from.id s →
      (stops_after (reader d) q.earliest q.haystack from.at s 0 ≡ true) ⊎
      (is_dead (state_after (reader d) q.haystack from.at s 1) ≡ true) ⊎
      (from.at ≡ last_offset d.nfa.automaton.reverse q)
  pub reports : ReportsTurn d true true q from.at from.cache new

-- the outcome of a turn of a scan in its span: the scan ends, or goes on
abbrev pub TurnsInto : Dfa → Search → Point → CacheValue → ℕ → ℕ → Position → Bool → Type 0
TurnsInto d q from new m n position true = EndsWith d q from new m n (pair_of position.best)
TurnsInto d q from new m n position false =
    GoesOne d q.haystack from new m n position.id (pair_of position.best) × (position.at ≡ offset_of d.nfa.automaton.reverse from.at 1) ×
    (from.at ≢ last_offset d.nfa.automaton.reverse q) × IsRow new position.id ×
    ((s : StateValue) → HeldAt from.cache from.id s → stops_after (reader d) q.earliest q.haystack from.at s 0 ≡ false) ×
    ReportsTurn d false false q from.at from.cache new

-- one turn of a scan in its span
abbrev pub TurnsTo : Dfa → Search → Point → CacheValue → ℕ → ℕ → Result Turned MatchErrorKind → Type 0
TurnsTo d q from new m n (Ok turned) = TurnsInto d q from new m n turned.position turned.has_ended
TurnsTo d q from new m n (Err (Quit b x)) = Leaves d q.haystack from new m n 0 ×
    (unit_at d.nfa.automaton.reverse q.haystack from.at ≡ Some b) × (has d.quits b ≡ true) ×
    (x ≡ index_at d.nfa.automaton.reverse from.at) ×
    ReportsTurn d true false q from.at from.cache new
TurnsTo d q from new m n (Err (GaveUp x)) = FailsOn d q.haystack from new m n 0 ×
    (is_quit d.quits (unit_at d.nfa.automaton.reverse q.haystack from.at) ≡ false) × (x ≡ gave_up_at d.nfa.automaton.reverse q from.at) ×
    ((s : StateValue) → HeldAt from.cache from.id s → has_no_room d new (state_after (reader d) q.haystack from.at s 1) ≡ true) ×
    (from.at ≢ last_offset d.nfa.automaton.reverse q → running_at new.progress ≡ Some x) ×
    ReportsTurn d false false q from.at from.cache new ×
    IsMoved from.cache new
TurnsTo d q from new m n (Err NoMemory) = FailsOn d q.haystack from new m n 0 × ReportsTurn d false false q from.at from.cache new
TurnsTo d q from new m n (Err (HaystackTooLong len)) = ⊥
TurnsTo d q from new m n (Err (UnsupportedAnchored mode)) = ⊥
TurnsTo d q from new m n (Err NotAPair) = ⊥

-- ---- the rest of a scan

-- The progress of the rest of a scan if the cache was cleared during it. The search restarted its count, or the scan
-- reports nothing.
pub data RestAnew (is_reverse : Bool) (q : Search) (units : ℕ) (new : ProgressValue) : Type 0 where
  rest_inside : (a : ℕ) → a ≤ scan_distance is_reverse (span_len q) units → new ≡ cut_progress is_reverse (span_len q) a units →
      RestAnew is_reverse q units new
  rest_untold : reports is_reverse q ≡ false → IsFresh new → RestAnew is_reverse q units new

-- the progress of the rest of a scan that fails at unit k, if the cache was cleared during it
pub data RestFails (is_reverse quits : Bool) (q : Search) (i k : ℕ) (new : ProgressValue) : Type 0 where
  fails_at : CutAt is_reverse quits (span_len q) i k new → RestFails is_reverse quits q i k new
  fails_untold : reports is_reverse q ≡ false → IsFresh new → LeftAt is_reverse quits (span_len q) i k new new →
      RestFails is_reverse quits q i k new

-- the progress of the rest of a scan, by its result, with a clear or without one
abbrev pub IsRestReported : Dfa → Search → StateValue → ℕ → Result (Option HalfFound) MatchErrorKind → CacheValue → CacheValue → Type 0
IsRestReported d q s i (Ok found) old new =
    ((progress_of new ≡ progress_past d.nfa.automaton.reverse (span_len q) (progress_of old)
    (units_read (reader d) q.earliest q.haystack (suc (span_len q)) i s)) ×
    (new.clears ≡ old.clears)) ⊎ (HasCleared old new × RestAnew d.nfa.automaton.reverse q
    (units_read (reader d) q.earliest q.haystack (suc (span_len q)) i s) (progress_of new))
IsRestReported d q s i (Err e) old new =
    (k : ℕ) × (k < units_read (reader d) q.earliest q.haystack (suc (span_len q)) i s) ×
    FailsAtUnit d new q.haystack s (span_len q) i k e ×
    ((LeftAt d.nfa.automaton.reverse (is_quit_error e) (span_len q) i k (progress_of old) (progress_of new) × (new.clears ≡ old.clears)) ⊎
    (HasCleared old new × RestFails d.nfa.automaton.reverse (is_quit_error e) q i k (progress_of new)))

-- The rest of a scan from its first offset in state s, through all units that are left.
pub record RunsOn (d : Dfa) (q : Search) (s : StateValue) (from : Point) (new : CacheValue) (m n : ℕ)
    (result : Result (Option HalfFound) MatchErrorKind) : Type 0 where
  pub answer : (result ≡ reported (pass_from (reader d) q.earliest q.haystack (suc (span_len q)) from.at s None)) ⊎
      (result ≡ Err NoMemory) ⊎
      ((x k : ℕ) × (result ≡ Err (GaveUp x)) × (k < units_read (reader d) q.earliest q.haystack (suc (span_len q)) from.at s) ×
      (x ≡ give_up_offset d.nfa.automaton.reverse (span_len q) from.at k) ×
      (has_no_room d new (state_after (reader d) q.haystack from.at s (suc k)) ≡ true) ×
      (k < span_len q → running_at new.progress ≡ Some x) × HasNoQuit (reader d) q.haystack from.at (suc k))
  pub kept : GrowsOrClears d from.cache new
  pub follows : OnOk result ((CacheGrows d from.cache new ×
      IsLinkedOver d new q.haystack from.at from.id (units_read (reader d) q.earliest q.haystack (suc (span_len q)) from.at s) ×
      (progress_of new ≡ progress_past d.nfa.automaton.reverse (span_len q) (progress_of from.cache)
      (units_read (reader d) q.earliest q.haystack (suc (span_len q)) from.at s))) ⊎
      HasCleared from.cache new)
  pub free : IsLinkedOver d from.cache q.haystack from.at from.id (units_read (reader d) q.earliest q.haystack
      (suc (span_len q)) from.at s) →
      IsMoved from.cache new × (m ≡ from.determinized) × (n ≡ from.inserted) ×
      (result ≡ reported (pass_from (reader d) q.earliest q.haystack (suc (span_len q)) from.at s None))
  pub determinized : m ≤ from.determinized + units_read (reader d) q.earliest q.haystack (suc (span_len q)) from.at s
  pub inserted : n ≤ from.inserted + units_read (reader d) q.earliest q.haystack (suc (span_len q)) from.at s * most_inserts d
  pub anew : IsRestReported d q s from.at result from.cache new
  pub changes : Changes d (IsMadeAt (reader d) q.haystack from.at s (units_read (reader d) q.earliest q.haystack
      (suc (span_len q)) from.at s)) from.cache new (units_read (reader d) q.earliest q.haystack (suc (span_len q)) from.at s)

-- ---- the start of a scan

-- what it passes to its start call
abbrev pub scan_start : Dfa → Search → StartValue
scan_start d q = start_from (reader d) q.anchored q.haystack (begins_at (reader d) q)

-- what its start call returns: the ID of its first state, or the reason why there is none
pub record StartsScan (d : Dfa) (q : Search) (old new : CacheValue) (m1 m2 n1 n2 : ℕ) (r : Result ℕ MatchErrorKind) : Type 0 where
  pub start : IfOk r (λ id. (rejected_start d (scan_start d q) ≡ None) ×
      Names new id (first_value (reader d) q.anchored q.haystack (begins_at (reader d) q)))
  pub err : IfErr r (λ e. ((rejected_start d (scan_start d q) ≢ None) ×
      (Err e ≡ reported (scan (reader d) q.anchored q.earliest q.haystack (span_len q) (begins_at (reader d) q)))) ⊎ (e ≡ NoMemory) ⊎
      ((e ≡ GaveUp (begins_at (reader d) q)) × (has_no_room d new (first_value (reader d) q.anchored q.haystack (begins_at (reader d) q)) ≡
      true) × (rejected_start d (scan_start d q) ≡ None)))
  pub kept : Grew d old new ⊎ WasCleared old new 1
  pub noted : IfOk r (λ id. (p : ℕ) → start_in d (mode_of q.anchored) ≡ Some p → start_noted d new (scan_start d q) ≡ id)
  pub known : (p : ℕ) → rejected_start d (scan_start d q) ≡ None → start_in d (mode_of q.anchored) ≡ Some p →
      start_noted d old (scan_start d q) ≢ unknown_id → r ≡ Ok (start_noted d old (scan_start d q))
  pub refused : IsStartKnown d old (scan_start d q) →
      IfErr r (λ e. Err e ≡ reported (scan (reader d) q.anchored q.earliest q.haystack (span_len q) (begins_at (reader d) q)))
  pub same : IsStartKnown d old (scan_start d q) → (new ≡ old) × (m2 ≡ m1) × (n2 ≡ n1)
  pub determinized : m2 ≤ m1 + 1
  pub inserted : n2 ≤ n1 + most_inserts d
  pub adds : StartAdds d old new (scan_start d q)
