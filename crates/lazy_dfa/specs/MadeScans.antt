-- What the functions that make scans, one after the other, guarantee about what they did.
use Rattle.std.specs.Prelude.{◌≡◌, ◌⊎◌, ℕ, suc, ◌+◌, ◌-◌, ◌*◌, ◌≤◌, Bool, List, Option, Result, Ok, Err, OnOk}
use Rattle.search_types.specs.declared.anchored.Anchored.{Anchored}
use Rattle.search_types.specs.declared.match_error.MatchErrorKind.{MatchErrorKind}
use Rattle.search_types.specs.declared.match_error.MatchErrorKind.TheVariants.{GaveUp, NoMemory}
use Rattle.search_types.specs.Found.{HalfFound}
use Rattle.search_types.specs.Inputs.{Search}
use Rattle.lazy_dfa.specs.AnewProgress.{ReportsAnew, FailsAnew, ReportedSince, FailsSince}
use Rattle.lazy_dfa.specs.Caches.{CacheValue}
use Rattle.lazy_dfa.specs.Changes.{Changes, IsMadeIn, IsMadeBy}
use Rattle.lazy_dfa.specs.Dfas.{Dfa, reader}
use Rattle.lazy_dfa.specs.LeftProgress.{LeavesScan, LeavesProgress}
use Rattle.lazy_dfa.specs.Linked.{IsLinkedScan, IsLinked, CacheGrows, HasCleared, GrowsOrClears, IsMoved, scans_of}
use Rattle.lazy_dfa.specs.Scans.{scan}
use Rattle.lazy_dfa.specs.ScanLaws.{scan_len_of}
use Rattle.lazy_dfa.specs.HalfSearches.{half_search}
use Rattle.lazy_dfa.specs.HalfSearchLaws.{begins_at}
use Rattle.lazy_dfa.specs.SearchAnswers.{reported, GivesUpIn, Answers, progress_of, progress_by_scan, progress_by, made_by}
use Rattle.lazy_dfa.specs.Steps.{most_inserts}

-- how many bytes the span of a search has
abbrev pub span_len : Search → ℕ
span_len q = q.end - q.start

-- The progress that a scan reports, by its result. If nothing was cleared, it is that of the scan. Otherwise it depends
-- on where the count restarted.
abbrev pub IsScanReported : Dfa → Anchored → Bool → List ℕ → ℕ × ℕ → Result (Option HalfFound) MatchErrorKind → CacheValue → CacheValue →
    Type 0
IsScanReported d mode earliest h p (Ok found) old new =
    ((progress_of new ≡ progress_by_scan (reader d) mode earliest h (progress_of old) p) × (new.clears ≡ old.clears)) ⊎
    (HasCleared old new × ReportsAnew (reader d) mode earliest h p (progress_of new))
IsScanReported d mode earliest h p (Err e) old new =
    (LeavesScan d mode earliest h p e (progress_of old) new × (new.clears ≡ old.clears)) ⊎
    (HasCleared old new × FailsAnew d mode earliest h p e new)

-- the progress that a half search reports, by its result
abbrev pub IsSearchReported : Dfa → Search → Result (Option HalfFound) MatchErrorKind → CacheValue → CacheValue → Type 0
IsSearchReported d q (Ok found) old new =
    ((progress_of new ≡ progress_by (reader d) q (progress_of old) (scans_of (reader d) q)) × (new.clears ≡ old.clears)) ⊎
    (HasCleared old new × ReportedSince (reader d) q (scans_of (reader d) q) (progress_of new))
IsSearchReported d q (Err e) old new =
    (LeavesProgress d q e (progress_of old) new × (new.clears ≡ old.clears)) ⊎ (HasCleared old new × FailsSince d q e new)

-- one scan of a search over its whole span
pub record MakesScan (d : Dfa) (q : Search) (old new : CacheValue) (m1 m2 n1 n2 : ℕ)
    (result : Result (Option HalfFound) MatchErrorKind) : Type 0 where
  pub answer : (result ≡ reported (scan (reader d) q.anchored q.earliest q.haystack (span_len q) (begins_at (reader d) q))) ⊎
      (result ≡ Err NoMemory) ⊎
      ((x : ℕ) × (result ≡ Err (GaveUp x)) × GivesUpIn d new q.anchored q.earliest q.haystack (span_len q) (begins_at (reader d) q) x)
  pub kept : GrowsOrClears d old new
  pub follows : OnOk result ((CacheGrows d old new ×
      IsLinkedScan d new q.anchored q.earliest q.haystack (span_len q) (begins_at (reader d) q) ×
      (progress_of new ≡ progress_by_scan (reader d) q.anchored q.earliest q.haystack (progress_of old) (
        span_len q,
        begins_at (reader d) q,
      ))) ⊎
      HasCleared old new)
  pub free : IsLinkedScan d old q.anchored q.earliest q.haystack (span_len q) (begins_at (reader d) q) →
      IsMoved old new × (m2 ≡ m1) × (n2 ≡ n1) × (result ≡ reported (scan (reader d) q.anchored q.earliest q.haystack (span_len q)
      (begins_at (reader d) q)))
  pub determinized : m2 ≤ m1 + suc (scan_len_of (reader d) q.anchored q.earliest q.haystack (span_len q) (begins_at (reader d) q))
  pub inserted : n2 ≤ n1 + suc (scan_len_of (reader d) q.anchored q.earliest q.haystack (span_len q) (begins_at (reader d) q)) *
      most_inserts d
  pub anew : IsScanReported d q.anchored q.earliest q.haystack (span_len q, begins_at (reader d) q) result old new
  pub changes : Changes d (IsMadeIn d q.anchored q.earliest q.haystack (span_len q, begins_at (reader d) q)) old new
      (suc (scan_len_of (reader d) q.anchored q.earliest q.haystack (span_len q) (begins_at (reader d) q)))

-- a half search with its restarts
pub record MakesSearch (d : Dfa) (q : Search) (old new : CacheValue) (m1 m2 n1 n2 : ℕ)
    (result : Result (Option HalfFound) MatchErrorKind) : Type 0 where
  pub answer : Answers d new q result
  pub kept : GrowsOrClears d old new
  pub follows : OnOk result ((CacheGrows d old new × IsLinked d new q × (progress_of new ≡ progress_by (reader d) q (progress_of old)
      (scans_of (reader d) q))) ⊎ HasCleared old new)
  pub free : IsLinked d old q → IsMoved old new × (m2 ≡ m1) × (n2 ≡ n1) × (result ≡ reported (half_search (reader d) q))
  pub determinized : m2 ≤ m1 + made_by (reader d) q (scans_of (reader d) q)
  pub inserted : n2 ≤ n1 + made_by (reader d) q (scans_of (reader d) q) * most_inserts d
  pub anew : IsSearchReported d q result old new
  pub changes : Changes d (IsMadeBy d q) old new (made_by (reader d) q (scans_of (reader d) q))
