-- The progress of a half search that failed, if nothing was cleared.
use Rattle.std.specs.Prelude.{◌≡◌, ⊤, ℕ, suc, ◌+◌, ◌<◌, ◌≤◌, ◌==◌, ◌&&◌, nat_lt, min, Bool, true, false, List, ◌∷◌, ◌++◌, Some, None}
use Rattle.std.specs.Prelude.{if◌then◌else◌}
use Rattle.search_types.specs.declared.anchored.Anchored.{Anchored}
use Rattle.search_types.specs.declared.match_error.MatchErrorKind.{MatchErrorKind}
use Rattle.search_types.specs.declared.match_error.MatchErrorKind.TheVariants.{Quit, GaveUp, HaystackTooLong, UnsupportedAnchored, NotAPair}
use Rattle.search_types.specs.declared.match_error.MatchErrorKind.TheVariants.{NoMemory}
use Rattle.search_types.specs.Inputs.{Search}
use Rattle.nfa_core.specs.Ways.{offset_of}
use Rattle.determinize_core.specs.States.{StateValue}
use Rattle.determinize_core.specs.Steps.{unit_before}
use Rattle.lazy_dfa.specs.Caches.{CacheValue, HeldAt, greatest, progress_len, moved_to, has_no_room}
use Rattle.lazy_dfa.specs.Courses.{state_after}
use Rattle.lazy_dfa.specs.Dfas.{Dfa, reader}
use Rattle.lazy_dfa.specs.Linked.{scans_of}
use Rattle.lazy_dfa.specs.Scans.{index_at, index_before_offset, first_value}
use Rattle.lazy_dfa.specs.ScanLaws.{scan_len_of, unit_of}
use Rattle.lazy_dfa.specs.SearchAnswers.{give_up_offset, ProgressValue, progress_of, progress_past, progress_by}

-- ---- what is reported

-- the running search has come to an offset, or ends there
abbrev pub progress_reached : ℕ → ProgressValue → ProgressValue
progress_reached at t = record { searched = t.searched; progress = moved_to at t.progress }

abbrev pub progress_finished : ℕ → ProgressValue → ProgressValue
progress_finished at t = record { searched = min (t.searched + progress_len (moved_to at t.progress)) greatest; progress = None }

-- what a scan, given by its number of bytes and its offset, reports when it begins; in reverse over no bytes it reports
-- nothing
abbrev pub progress_from : Bool → ℕ × ℕ → ProgressValue → ProgressValue
progress_from is_reverse p t =
    if is_reverse && p.0 == 0 then t else record {
      searched = min (t.searched + progress_len t.progress) greatest;
      progress = Some (record { start = index_at is_reverse p.1; at = index_at is_reverse p.1 });
    }

-- Whether the search had ended when a scan over n bytes fails at unit k. At a byte, it had ended if that is a quit
-- byte. At the unit after the span, it had ended if the scan is in reverse.
abbrev pub has_finished : Bool → Bool → ℕ → ℕ → Bool
has_finished is_reverse quits n k = if nat_lt k n then quits else is_reverse

-- what such a scan has reported, by what was reported when it began, and by where the running search is
abbrev pub left_progress : Bool → Bool → ℕ → ℕ → ℕ → ProgressValue → ProgressValue
left_progress is_reverse quits n k at t = if has_finished is_reverse quits n k then progress_past is_reverse n t (suc k) else
    progress_reached at t

-- A scan over n bytes from offset i fails at unit k. At a byte, a running search is there. At the unit after the span,
-- it is where it was last reported to be: `byte` bytes after its first one.
pub record LeftAt (is_reverse quits : Bool) (n i k : ℕ) (t new : ProgressValue) : Type 0 where
  pub byte : ℕ
  pub read : byte ≤ k
  pub there : k < n → byte ≡ k
  pub reported : new ≡ left_progress is_reverse quits n k (index_at is_reverse (offset_of is_reverse i byte)) t

-- ---- errors

-- whether the error is that of a quit byte
abbrev pub is_quit_error : MatchErrorKind → Bool
is_quit_error (Quit b x) = true
is_quit_error (GaveUp x) = false
is_quit_error (HaystackTooLong len) = false
is_quit_error (UnsupportedAnchored mode) = false
is_quit_error NotAPair = false
is_quit_error NoMemory = false

-- a row of the cache has this state
abbrev pub HasRowOf : CacheValue → StateValue → Type 0
HasRowOf v s = (id : ℕ) × HeldAt v id s

-- The errors of a scan that fails at its start, at offset i. The look-behind byte is a quit byte, the mode isn't
-- supported, its first state has no room and no clear is allowed, or an allocation failed.
abbrev pub FailsFirst : Dfa → CacheValue → Anchored → List ℕ → ℕ → MatchErrorKind → Type 0
FailsFirst d v mode h i (Quit b x) =
    (unit_before d.nfa.automaton.reverse h i ≡ Some b) × (x ≡ index_before_offset d.nfa.automaton.reverse i)
FailsFirst d v mode h i (GaveUp x) = (x ≡ i) × (has_no_room d v (first_value (reader d) mode h i) ≡ true)
FailsFirst d v mode h i (HaystackTooLong len) = ⊥
FailsFirst d v mode h i (UnsupportedAnchored mode2) = ⊤
FailsFirst d v mode h i NotAPair = ⊥
FailsFirst d v mode h i NoMemory = ⊤

-- The errors of a scan over n bytes from offset i, in state s there, that fails at unit k. The unit is a quit byte, or
-- an allocation failed, or the state after the unit has no room and no clear is allowed while the state before it is
-- held.
abbrev pub FailsAtUnit : Dfa → CacheValue → List ℕ → StateValue → ℕ → ℕ → ℕ → MatchErrorKind → Type 0
FailsAtUnit d v h s n i k (Quit b x) =
    (unit_of (reader d) h i k ≡ Some b) × (x ≡ index_at d.nfa.automaton.reverse (offset_of d.nfa.automaton.reverse i k))
FailsAtUnit d v h s n i k (GaveUp x) = (x ≡ give_up_offset d.nfa.automaton.reverse n i k) ×
    HasRowOf v (state_after (reader d) h i s k) × (has_no_room d v (state_after (reader d) h i s (suc k)) ≡ true)
FailsAtUnit d v h s n i k (HaystackTooLong len) = ⊥
FailsAtUnit d v h s n i k (UnsupportedAnchored mode) = ⊥
FailsAtUnit d v h s n i k NotAPair = ⊥
FailsAtUnit d v h s n i k NoMemory = ⊤

-- ---- what searches leave

-- A scan is given by its number of bytes and its offset. It fails at its start, where it has reported nothing, or at a
-- unit that it reads. An error by a quit byte or by a state without room decides which. A scan that gives up at its
-- start has no first state, and one that gives up at a unit holds the state before that. A failed allocation doesn't
-- decide it, so the progress is then that of the start or of any unit.
pub data LeavesScan (d : Dfa) (mode : Anchored) (earliest : Bool) (h : List ℕ) (p : ℕ ×
    ℕ) (e : MatchErrorKind) (t : ProgressValue) (new : CacheValue) : Type 0 where
  left_first : FailsFirst d new mode h p.1 e → progress_of new ≡ t → LeavesScan d mode earliest h p e t new
  left_at_unit : (k : ℕ) → k < scan_len_of (reader d) mode earliest h p.0 p.1 →
      FailsAtUnit d new h (first_value (reader d) mode h p.1) p.0 p.1 k e →
      LeftAt d.nfa.automaton.reverse (is_quit_error e) p.0 p.1 k (progress_from d.nfa.automaton.reverse p t) (progress_of new) →
      LeavesScan d mode earliest h p e t new

-- one of the scans of a half search fails, and those before it have reported all their progress
pub record LeavesProgress (d : Dfa) (q : Search) (e : MatchErrorKind) (t : ProgressValue) (new : CacheValue) : Type 0 where
  pub done : List (ℕ × ℕ)
  pub refused : ℕ × ℕ
  pub behind : List (ℕ × ℕ)
  pub all : scans_of (reader d) q ≡ done ++ refused ∷ behind
  pub left : LeavesScan d q.anchored q.earliest q.haystack refused e (progress_by (reader d) q t done) new
