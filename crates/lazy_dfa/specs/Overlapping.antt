-- Overlapping searches: what is left of such a search, as a function of values without a cache, and what its state
-- between two calls stands for.
use Rattle.std.specs.Prelude.{ℕ, zero, suc, ◌-◌, ◌≤◌, nat_le, Bool, true, false, List, [], ◌++◌, length, drop, map, Option, Some, None}
use Rattle.std.specs.Prelude.{if◌then◌else◌, ⊤}
use Rattle.search_core.specs.ByteSets.{has}
use Rattle.search_types.specs.declared.anchored.Anchored.{Anchored}
use Rattle.search_types.specs.declared.match_error.MatchErrorKind.{MatchErrorKind}
use Rattle.search_types.specs.declared.match_error.MatchErrorKind.TheVariants.{Quit, UnsupportedAnchored}
use Rattle.search_types.specs.Found.{HalfFound}
use Rattle.search_types.specs.Inputs.{Search}
use Rattle.search_types.specs.Modes.{is_supported}
use Rattle.search_types.specs.Places.{counts}
use Rattle.determinize_core.specs.States.{StateValue}
use Rattle.determinize_core.specs.Steps.{unit_at, unit_before}
use Rattle.lazy_dfa.specs.Caches.{CacheValue, HeldAt}
use Rattle.lazy_dfa.specs.Courses.{state_after}
use Rattle.lazy_dfa.specs.declared.overlapping.overlapping_state.Stop.{Stop}
use Rattle.lazy_dfa.specs.declared.overlapping.overlapping_state.OverlappingPosition.{OverlappingPosition}
use Rattle.lazy_dfa.specs.declared.overlapping.overlapping_state.OverlappingPosition.TheVariants.{Fresh, Ended, Failed, Stopped}
use Rattle.lazy_dfa.specs.Dfas.{Dfa, reader}
use Rattle.lazy_dfa.specs.Scans.{index_at, index_before_offset, is_dead, next_value, next_offset, first_value}
use Rattle.lazy_dfa.specs.Readers.{Reader}
use Rattle.lazy_dfa.specs.HalfSearchLaws.{begins_at}
use Rattle.lazy_dfa.specs.ScanOffsets.{came, left_at, IsWithinSpan}

-- ---- what is left

-- What is left of an overlapping search: the ends that it has still to report, each with its offset and its pattern,
-- and the error that comes after them. None: there is no error.
pub record Rest : Type 0 where
  pub ends : List (ℕ × ℕ)
  pub rejection : Option MatchErrorKind

abbrev pub nothing_left : Rest
nothing_left = record { ends = []; rejection = None }

abbrev pub refused : MatchErrorKind → Rest
refused e = record { ends = []; rejection = Some e }

-- these ends, followed by what is left
abbrev pub onto : List (ℕ × ℕ) → Rest → Rest
onto ends rest = record { ends = ends ++ rest.ends; rejection = rest.rejection }

-- all that is left except the next end
abbrev pub others : Rest → Rest
others rest = record { ends = drop 1 rest.ends; rejection = rest.rejection }

-- a quit byte ends the search with an error that has its index
abbrev pub unless_quit_at : List Bool → Option ℕ → ℕ → Rest → Rest
unless_quit_at quits None index rest = rest
unless_quit_at quits (Some b) index rest = if has quits b then refused (Quit b index) else rest

-- a mode in which the automaton can't search ends it with an error
abbrev pub where_supported : Bool → Anchored → Rest → Rest
where_supported supported mode rest = if supported then rest else refused (UnsupportedAnchored mode)

-- the end of a match of a pattern, at an offset
abbrev pub end_of : ℕ → ℕ → ℕ × ℕ
end_of i p = (i, p)

-- the ends of matches of these patterns at an offset, if the offset counts
abbrev pub listed : (ℕ → Bool) → ℕ → List ℕ → List (ℕ × ℕ)
listed counted i patterns = if counted i then map (end_of i) patterns else []

-- What is left of an overlapping search through n units, from a state at an offset. It is what the states list, offset
-- by offset, each in its order. A state lists what matches before its unit. The search ends at the dead state. At a
-- quit byte it ends with an error.
unfoldable pub rest_from : Reader → List ℕ → ℕ → ℕ → StateValue → Rest
rest_from r h zero i v = nothing_left
rest_from r h (suc n) i v =
    if is_dead v then nothing_left else
    unless_quit_at r.quits (unit_at r.automaton.reverse h i) (index_at r.automaton.reverse i)
    (onto (listed (counts r.between_characters h) i (next_value r h i v).matches)
    (rest_from r h n (next_offset r i) (next_value r h i v)))

-- What is left of an overlapping search over a span that hasn't begun. It checks the look-behind byte of its first
-- offset, then the mode. Then it reads the span's bytes and the byte just past them, or the end of input if there is
-- none. A search that is done looks at nothing.
abbrev pub whole_rest : Reader → Search → Rest
whole_rest r q =
    if nat_le q.start q.end
    then unless_quit_at r.quits (unit_before r.automaton.reverse q.haystack (begins_at r q))
    (index_before_offset r.automaton.reverse (begins_at r q))
    (where_supported (is_supported r.starts_for_each_pattern q.anchored) q.anchored
    (rest_from r q.haystack (suc (q.end - q.start)) (begins_at r q) (first_value r q.anchored q.haystack (begins_at r q))))
    else nothing_left

-- ---- an overlapping search between two calls

-- the DFA state after all units of a search up to the one at this offset, which is read too
abbrev pub value_past : Reader → Search → ℕ → StateValue
value_past r q at =
    state_after r q.haystack (begins_at r q) (first_value r q.anchored q.haystack (begins_at r q)) (suc (came r.automaton.reverse q at))

-- what is left after this unit
abbrev pub rest_past : Reader → Search → ℕ → Rest
rest_past r q at = rest_from r q.haystack (left_at r.automaton.reverse q at) (next_offset r at) (value_past r q at)

-- What is left of an overlapping search. If it stopped after the unit at an offset, it first reports what that state
-- lists from an index on.
abbrev pub rest_of : Reader → Search → OverlappingPosition → Rest
rest_of r q Fresh = whole_rest r q
rest_of r q Ended = nothing_left
rest_of r q (Failed e) = refused e
rest_of r q (Stopped stop) =
    onto (listed (counts r.between_characters q.haystack) stop.at (drop stop.index (value_past r q stop.at).matches))
    (rest_past r q stop.at)

-- An overlapping search stopped in this cache. Its ID names the state after the units that it read. Its index is an
-- index into this state's list, or the one just after it. Nothing else ties a search to a cache.
pub record StopsAt (d : Dfa) (v : CacheValue) (q : Search) (stop : Stop) : Type 0 where
  pub within : IsWithinSpan q stop.at
  pub held : HeldAt v stop.id (value_past (reader d) q stop.at)
  pub index : stop.index ≤ length (value_past (reader d) q stop.at).matches

-- The overlapping search over this input can go on in this cache: it is fresh, failed or ended, or it stopped there.
-- Calls of overlapping searches with the same automaton and input preserve this. So does each call that clears nothing.
abbrev pub CanContinue : Dfa → CacheValue → Search → OverlappingPosition → Type 0
CanContinue d v q Fresh = ⊤
CanContinue d v q Ended = ⊤
CanContinue d v q (Failed e) = ⊤
CanContinue d v q (Stopped stop) = StopsAt d v q stop

-- the value of an `OverlappingState`: the end that the last call reported, and where the search is
pub record OverlappingValue : Type 0 where
  pub found : Option HalfFound
  pub walk : OverlappingPosition

abbrev pub is_failed_overlapping : OverlappingPosition → Bool
is_failed_overlapping Fresh = false
is_failed_overlapping Ended = false
is_failed_overlapping (Failed e) = true
is_failed_overlapping (Stopped stop) = false
