-- What a call of an overlapping search reports, among the ends of runs: no definition of a DFA state is needed for this.
use Rattle.std.specs.Prelude.{◌≡◌, ℕ, suc, ◌-◌, ◌<◌, ◌≤◌, List, [], ◌++◌, drop, Option, Some, None, Result, OnOk, ⊤}
use Rattle.search_types.specs.declared.match_error.MatchErrorKind.{MatchErrorKind}
use Rattle.search_types.specs.declared.match_kind.MatchKind.TheVariants.{All as AllMatches}
use Rattle.search_types.specs.Inputs.{Search}
use Rattle.search_types.specs.Places.{counts}
use Rattle.nfa_core.specs.Places.{first}
use Rattle.nfa_core.specs.Ways.{offset_of}
use Rattle.lazy_dfa.specs.declared.overlapping.overlapping_state.OverlappingPosition.{OverlappingPosition}
use Rattle.lazy_dfa.specs.declared.overlapping.overlapping_state.OverlappingPosition.TheVariants.{Fresh, Ended, Failed, Stopped}
use Rattle.lazy_dfa.specs.HalfSearchLaws.{ends_of, HasNoQuitNear}
use Rattle.lazy_dfa.specs.Overlapping.{OverlappingValue}
use Rattle.lazy_dfa.specs.OverlappingLaws.{ends_at, ends_by_offset, span_ends}
use Rattle.lazy_dfa.specs.Readers.{Reader}
use Rattle.lazy_dfa.specs.Scans.{start_name}
use Rattle.lazy_dfa.specs.ScanOffsets.{left_at}
use Rattle.lazy_dfa.specs.SearchAnswers.{half_of}

-- The ends of runs that an overlapping search for all matches has still to report, offset by offset. At first these are all of
-- them. A search that stopped at an offset has left the ends there from an index on, and all ends at the offsets after it.
abbrev pub ends_left : Reader → Search → ℕ → OverlappingPosition → List (ℕ × ℕ)
ends_left r q name Fresh = span_ends r q name (suc (q.end - q.start))
ends_left r q name Ended = []
ends_left r q name (Failed e) = []
ends_left r q name (Stopped stop) =
    drop stop.index (ends_at (counts r.between_characters q.haystack) (ends_of r q name 0) stop.at) ++
    ends_by_offset r.automaton.reverse (counts r.between_characters q.haystack) (ends_of r q name 0)
    (offset_of r.automaton.reverse stop.at 1) (left_at r.automaton.reverse q stop.at)

-- A call of an overlapping search that succeeded. If all matches are asked for and no quit byte is in the span or next to it, the
-- call reported the first of the ends that were left, or none if none was, and has left the others. It reported none if the
-- span is done, nor does the first call for a pattern that doesn't exist.
pub record IsNextLeft (r : Reader) (q : Search) (w : OverlappingPosition) (after : OverlappingValue) : Type 0 where
  pub next : (name : ℕ) → r.kind ≡ AllMatches → q.start ≤ q.end → HasNoQuitNear r q.haystack q.start q.end →
      start_name r.automaton q.anchored ≡ Some name → after.found ≡ half_of (first (ends_left r q name w))
  pub left : (name : ℕ) → r.kind ≡ AllMatches → q.start ≤ q.end → HasNoQuitNear r q.haystack q.start q.end →
      start_name r.automaton q.anchored ≡ Some name → ends_left r q name after.walk ≡ drop 1 (ends_left r q name w)
  pub no_pattern : w ≡ Fresh → start_name r.automaton q.anchored ≡ None → after.found ≡ None
  pub done : q.end < q.start → after.found ≡ None

abbrev pub FindsNextLeft : Reader → Search → OverlappingPosition → OverlappingValue → Result ⊤ MatchErrorKind → Type 0
FindsNextLeft r q w after result = OnOk result (IsNextLeft r q w after)
