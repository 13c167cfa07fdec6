-- How an overlapping search reads one unit of its span, for the functions that read on.
use Rattle.std.specs.Prelude.{◌≡◌, ◌≢◌, ◌⊎◌, ℕ, suc, ◌<◌, ◌==◌, ◌&&◌, ◌||◌, not, Bool, true, false, List, Option, Some, None, Result, Ok}
use Rattle.std.specs.Prelude.{Err}
use Rattle.std.specs.Prelude.{if◌then◌else◌}
use Rattle.search_core.specs.ByteSets.{has}
use Rattle.nfa_core.specs.Ways.{offset_of}
use Rattle.determinize_core.specs.States.{StateValue}
use Rattle.determinize_core.specs.Steps.{unit_at}
use Rattle.search_types.specs.declared.match_error.MatchErrorKind.{MatchErrorKind}
use Rattle.search_types.specs.declared.match_error.MatchErrorKind.TheVariants.{Quit, GaveUp, HaystackTooLong, UnsupportedAnchored, NotAPair}
use Rattle.search_types.specs.declared.match_error.MatchErrorKind.TheVariants.{NoMemory}
use Rattle.search_types.specs.Found.{HalfFound}
use Rattle.search_types.specs.Inputs.{Search}
use Rattle.search_types.specs.Places.{counts}
use Rattle.lazy_dfa.specs.AnewProgress.{anew_if}
use Rattle.lazy_dfa.specs.Caches.{CacheValue, HeldAt, IsRow, has_no_room}
use Rattle.lazy_dfa.specs.Courses.{state_after}
use Rattle.lazy_dfa.specs.declared.overlapping.overlapping_state.OverlappingPosition.TheVariants.{Ended, Stopped}
use Rattle.lazy_dfa.specs.declared.search.position.Position.{Position}
use Rattle.lazy_dfa.specs.declared.search.scan_steps.Seen.{Seen}
use Rattle.lazy_dfa.specs.declared.search.scan_steps.Turn.{Turn}
use Rattle.lazy_dfa.specs.declared.search.scan_steps.Turn.TheVariants.{GoesOn, Ends, Quits}
use Rattle.lazy_dfa.specs.declared.overlapping.walk_reads.Read.{Read}
use Rattle.lazy_dfa.specs.Dfas.{Dfa, reader}
use Rattle.lazy_dfa.specs.LeftProgress.{progress_reached, progress_finished}
use Rattle.lazy_dfa.specs.Linked.{HasCleared, IsMoved}
use Rattle.lazy_dfa.specs.Scans.{index_at, is_empty, is_dead}
use Rattle.lazy_dfa.specs.Points.{Point}
use Rattle.lazy_dfa.specs.Readers.{Reader, is_quit}
use Rattle.lazy_dfa.specs.SearchAnswers.{pair_of, ProgressValue, progress_of, running_at}
use Rattle.lazy_dfa.specs.ScanOffsets.{last_offset, finished, gave_up_at}
use Rattle.lazy_dfa.specs.ScanSteps.{GoesOne, Leaves, FailsOn}
use Rattle.lazy_dfa.specs.Overlapping.{OverlappingValue}

-- whether the state after the unit at an offset lists an end that counts
abbrev pub reports_end : Reader → List ℕ → ℕ → StateValue → Bool
reports_end r h i s = counts r.between_characters h i && not (is_empty s.matches)

-- none of the states after the first n units lists an end that counts
abbrev pub ReportsNone : Reader → List ℕ → ℕ → StateValue → ℕ → Type 0
ReportsNone r h i v n = (k : ℕ) → k < n → reports_end r h (offset_of r.automaton.reverse i k) (state_after r h i v (suc k)) ≡ false

-- Whether a call is over after a unit. This depends on the outcome of the turn, on whether an end is reported there,
-- and on whether the unit was the last one.
abbrev pub is_over : Turn → Bool → Bool → Bool
is_over GoesOn reports last = reports || last
is_over Ends reports last = true
is_over Quits reports last = true

-- the search after the last unit that a call reads
abbrev pub stopped : Bool → ℕ → ℕ → Option HalfFound → OverlappingValue
stopped true id at found = record { found = found; walk = Stopped (record { id = id; index = 1; at = at }) }
stopped false id at found = record { found = None; walk = Ended }

-- The progress after a unit at an index, with which the cache may be cleared. The index is reported before the unit is
-- read. If `finishes`, the search ends there.
abbrev pub unit_progress : Bool → Bool → ℕ → ProgressValue → ProgressValue
unit_progress finishes cleared index t =
    if finishes then progress_finished index (anew_if cleared (progress_reached index t)) else anew_if cleared (progress_reached index t)

-- the progress that a unit reports, whether the cache was cleared with it or not
abbrev pub ReportsUnit : Dfa → Bool → Search → ℕ → CacheValue → CacheValue → Type 0
ReportsUnit d finishes q at old new =
    ((progress_of new ≡ unit_progress finishes false (gave_up_at d.nfa.automaton.reverse q at) (progress_of old)) ×
    (new.clears ≡ old.clears)) ⊎
    (HasCleared old new × (progress_of new ≡ unit_progress finishes true (gave_up_at d.nfa.automaton.reverse q at) (progress_of old)))

-- a unit was read at a point: it leads to a row, or to the dead state
abbrev pub IsStepTo : Dfa → Search → Point → CacheValue → ℕ → ℕ → ℕ → Option (ℕ × ℕ) → Turn → Type 0
IsStepTo d q from new m n id best GoesOn = GoesOne d q.haystack from new m n id best × IsRow new id ×
    ReportsUnit d false q from.at from.cache new
IsStepTo d q from new m n id best Ends = GoesOne d q.haystack from new m n id best ×
    ((s : StateValue) → HeldAt from.cache from.id s → is_dead (state_after (reader d) q.haystack from.at s 1) ≡ true) ×
    ReportsUnit d false q from.at from.cache new
IsStepTo d q from new m n id best Quits = ⊥

-- A unit fails: it is a quit byte, or the state after it has no room and no clear is allowed, or an allocation failed.
abbrev pub FailsUnit : Dfa → Search → Point → CacheValue → ℕ → ℕ → MatchErrorKind → Type 0
FailsUnit d q from new m n (Quit b x) = Leaves d q.haystack from new m n 0 ×
    (unit_at d.nfa.automaton.reverse q.haystack from.at ≡ Some b) × (has d.quits b ≡ true) ×
    (x ≡ index_at d.nfa.automaton.reverse from.at) ×
    ReportsUnit d true q from.at from.cache new
FailsUnit d q from new m n (GaveUp x) = FailsOn d q.haystack from new m n 0 ×
    (is_quit d.quits (unit_at d.nfa.automaton.reverse q.haystack from.at) ≡ false) × (x ≡ gave_up_at d.nfa.automaton.reverse q from.at) ×
    ((s : StateValue) → HeldAt from.cache from.id s → has_no_room d new (state_after (reader d) q.haystack from.at s 1) ≡ true) ×
    (from.at ≢ last_offset d.nfa.automaton.reverse q → running_at new.progress ≡ Some x) ×
    ReportsUnit d (from.at == last_offset d.nfa.automaton.reverse q) q from.at from.cache new × IsMoved from.cache new
FailsUnit d q from new m n NoMemory = FailsOn d q.haystack from new m n 0 ×
    ReportsUnit d (from.at == last_offset d.nfa.automaton.reverse q) q from.at from.cache new
FailsUnit d q from new m n (HaystackTooLong len) = ⊥
FailsUnit d q from new m n (UnsupportedAnchored mode) = ⊥
FailsUnit d q from new m n NotAPair = ⊥

-- a step at a point, by its result
abbrev pub StepsAt : Dfa → Search → Point → CacheValue → ℕ → ℕ → Result Seen MatchErrorKind → Type 0
StepsAt d q from new m n (Ok seen) = IsStepTo d q from new m n seen.id (pair_of seen.best) seen.turn
StepsAt d q from new m n (Err e) = FailsUnit d q from new m n e

-- A call is over with the unit at a point, and has reported its offset to the cache. It reports the end that was
-- recorded there. If there is none, the search has ended.
pub record StopsWith (d : Dfa) (q : Search) (from : Point) (new : CacheValue) (m n : ℕ) (position : Position) (reports : Bool) : Type 0
  where
    pub behind : CacheValue
    pub goes : GoesOne d q.haystack from behind m n position.id (pair_of position.best)
    pub place : position.at ≡ from.at
    pub ended : new ≡ finished (gave_up_at d.nfa.automaton.reverse q from.at) behind
    pub listed : (s : StateValue) → HeldAt from.cache from.id s → reports ≡ reports_end (reader d) q.haystack from.at
        (state_after (reader d) q.haystack from.at s 1)
    pub why : reports ≡ false → (s : StateValue) → HeldAt from.cache from.id s →
        (is_dead (state_after (reader d) q.haystack from.at s 1) ≡ true) ⊎ (from.at ≡ last_offset d.nfa.automaton.reverse q)
    pub reported : ReportsUnit d true q from.at from.cache new

-- the outcome of a unit: the call is over, or it goes on
abbrev pub ReadsInto : Dfa → Search → Point → CacheValue → ℕ → ℕ → Position → Bool → Bool → Type 0
ReadsInto d q from new m n position reports true = StopsWith d q from new m n position reports
ReadsInto d q from new m n position reports false =
    GoesOne d q.haystack from new m n position.id (pair_of position.best) × (position.at ≡ offset_of d.nfa.automaton.reverse from.at 1) ×
    (from.at ≢ last_offset d.nfa.automaton.reverse q) × IsRow new position.id ×
    ((s : StateValue) → HeldAt from.cache from.id s → reports_end (reader d) q.haystack from.at
    (state_after (reader d) q.haystack from.at s 1) ≡ false) × ReportsUnit d false q from.at from.cache new

-- one unit of an overlapping search in its span
abbrev pub ReadsTo : Dfa → Search → Point → CacheValue → ℕ → ℕ → Result Read MatchErrorKind → Type 0
ReadsTo d q from new m n (Ok read) = ReadsInto d q from new m n read.position read.reports read.is_over
ReadsTo d q from new m n (Err e) = FailsUnit d q from new m n e
