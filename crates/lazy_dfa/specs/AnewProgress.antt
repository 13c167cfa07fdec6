-- The progress of a half search during which the cache was cleared. What was searched before the clear no longer
-- counts, and the running search restarts its count at its offset.
use Rattle.std.specs.Prelude.{◌≡◌, ℕ, suc, ◌-◌, ◌<◌, ◌≤◌, min, Bool, List, ◌∷◌, ◌++◌, Option, Some, None, Result, Ok, Err, if◌then◌else◌}
use Rattle.search_types.specs.declared.anchored.Anchored.{Anchored}
use Rattle.search_types.specs.declared.match_error.MatchErrorKind.{MatchErrorKind}
use Rattle.search_types.specs.Found.{HalfFound}
use Rattle.search_types.specs.Inputs.{Search}
use Rattle.nfa_core.specs.Ways.{offset_of}
use Rattle.lazy_dfa.specs.Caches.{CacheValue, greatest, progress_len, begun_anew}
use Rattle.lazy_dfa.specs.Dfas.{Dfa, reader}
use Rattle.lazy_dfa.specs.LeftProgress.{has_finished, is_quit_error, FailsAtUnit, LeavesScan}
use Rattle.lazy_dfa.specs.Linked.{scans_of}
use Rattle.lazy_dfa.specs.Scans.{index_at, first_value}
use Rattle.lazy_dfa.specs.ScanLaws.{scan_len_of}
use Rattle.lazy_dfa.specs.Readers.{Reader}
use Rattle.lazy_dfa.specs.SearchAnswers.{ProgressValue, progress_of, scan_distance, progress_by_scan, progress_by}

-- ---- a clear

-- the progress after a clear, and after a possible clear
abbrev pub progress_anew : ProgressValue → ProgressValue
progress_anew t = record { searched = 0; progress = begun_anew t.progress }

abbrev pub anew_if : Bool → ProgressValue → ProgressValue
anew_if cleared t = if cleared then progress_anew t else t

-- no progress is counted
pub record IsFresh (t : ProgressValue) : Type 0 where
  pub searched : t.searched ≡ 0
  pub progress : progress_len t.progress ≡ 0

-- ---- scans

-- The progress that a scan over n bytes reports after `units` units. The cache was last cleared when the search was at
-- the byte that is `a` bytes after its first one. The progress is the distance from there.
abbrev pub cut_progress : Bool → ℕ → ℕ → ℕ → ProgressValue
cut_progress is_reverse n a units = record { searched = min (scan_distance is_reverse n units - a) greatest; progress = None }

-- The progress that such a scan leaves if it fails at unit k. If the search goes on, it is at the index x.
abbrev pub cut_left : Bool → Bool → ℕ → ℕ → ℕ → ℕ → ℕ → ProgressValue
cut_left is_reverse quits n i a k x =
    if has_finished is_reverse quits n k then cut_progress is_reverse n a (suc k) else
    record { searched = 0; progress = Some (record { start = index_at is_reverse (offset_of is_reverse i a); at = x }) }

-- the progress of a scan, given by its number of bytes and its offset, if the cache was cleared at its start or in its
-- course
pub data ReportsAnew (r : Reader) (mode : Anchored) (earliest : Bool) (h : List ℕ) (p : ℕ × ℕ) (new : ProgressValue) : Type 0 where
  cleared_first : (s : ProgressValue) → IsFresh s → new ≡ progress_by_scan r mode earliest h s p → ReportsAnew r mode earliest h p new
  cleared_inside : (a : ℕ) → a ≤ scan_distance r.automaton.reverse p.0 (scan_len_of r mode earliest h p.0 p.1) →
      new ≡ cut_progress r.automaton.reverse p.0 a (scan_len_of r mode earliest h p.0 p.1) → ReportsAnew r mode earliest h p new

-- A scan over n bytes from offset i fails at unit k. The search restarted its count at the byte that is `from` bytes
-- after its first one.
pub record CutAt (is_reverse quits : Bool) (n i k : ℕ) (new : ProgressValue) : Type 0 where
  pub from : ℕ
  pub byte : ℕ
  pub inside : from ≤ scan_distance is_reverse n (suc k)
  pub past : from ≤ byte
  pub read : byte ≤ k
  pub there : k < n → byte ≡ k
  pub reported : new ≡ cut_left is_reverse quits n i from k (index_at is_reverse (offset_of is_reverse i byte))

-- the progress of such a scan that fails
pub data FailsAnew (d : Dfa) (mode : Anchored) (earliest : Bool) (h : List ℕ) (p : ℕ ×
    ℕ) (e : MatchErrorKind) (new : CacheValue) : Type 0 where
  fails_first : (s : ProgressValue) → IsFresh s → LeavesScan d mode earliest h p e s new → FailsAnew d mode earliest h p e new
  fails_inside : (k : ℕ) → k < scan_len_of (reader d) mode earliest h p.0 p.1 →
      FailsAtUnit d new h (first_value (reader d) mode h p.1) p.0 p.1 k e →
      CutAt d.nfa.automaton.reverse (is_quit_error e) p.0 p.1 k (progress_of new) → FailsAnew d mode earliest h p e new

-- ---- searches

-- the progress that scans report if the cache was last cleared during one of them: that of this scan, and of all scans
-- after it
pub record ReportedSince (r : Reader) (q : Search) (ps : List (ℕ × ℕ)) (new : ProgressValue) : Type 0 where
  pub done : List (ℕ × ℕ)
  pub cut : ℕ × ℕ
  pub behind : List (ℕ × ℕ)
  pub all : ps ≡ done ++ cut ∷ behind
  pub first : ProgressValue
  pub anew : ReportsAnew r q.anchored q.earliest q.haystack cut first
  pub reported : new ≡ progress_by r q first behind

-- A half search fails in a scan after the one during which the cache was last cleared, or in that scan itself.
pub data FailsSince (d : Dfa) (q : Search) (e : MatchErrorKind) (new : CacheValue) : Type 0 where
  fails_later : (done behind : List (ℕ × ℕ)) (refused : ℕ × ℕ) (t : ProgressValue) → scans_of (reader d) q ≡ done ++ refused ∷ behind →
      ReportedSince (reader d) q done t →
      LeavesScan d q.anchored q.earliest q.haystack refused e t new → FailsSince d q e new
  fails_there : (done behind : List (ℕ × ℕ)) (refused : ℕ × ℕ) → scans_of (reader d) q ≡ done ++ refused ∷ behind →
      FailsAnew d q.anchored q.earliest q.haystack refused e new → FailsSince d q e new

-- the progress since the last clear, if the search succeeds and if it fails
abbrev pub IsReportedSince : Dfa → Search → Result (Option HalfFound) MatchErrorKind → CacheValue → Type 0
IsReportedSince d q (Ok found) new = ReportedSince (reader d) q (scans_of (reader d) q) (progress_of new)
IsReportedSince d q (Err e) new = FailsSince d q e new
