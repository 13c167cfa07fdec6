-- What a half search guarantees, forward and in reverse alike: about its result, its cache and its work.
use Rattle.std.specs.Prelude.{◌≡◌, ℕ, ◌+◌, ◌*◌, ◌<◌, ◌≤◌, true, Option, None, Result, IfErr, OnOk}
use Rattle.search_types.specs.declared.match_error.MatchErrorKind.{MatchErrorKind}
use Rattle.search_types.specs.declared.match_error.MatchErrorKind.TheVariants.{NoMemory}
use Rattle.search_types.specs.Found.{HalfFound}
use Rattle.search_types.specs.Inputs.{Search}
use Rattle.search_types.specs.Modes.{is_supported}
use Rattle.lazy_dfa.specs.AnewProgress.{IsReportedSince}
use Rattle.lazy_dfa.specs.Caches.{CacheValue, greatest}
use Rattle.lazy_dfa.specs.Changes.{Changes, IsMadeBy}
use Rattle.lazy_dfa.specs.ConfigValue.{clears_of}
use Rattle.lazy_dfa.specs.Dfas.{Dfa, reader}
use Rattle.lazy_dfa.specs.LeftProgress.{LeavesProgress}
use Rattle.lazy_dfa.specs.Linked.{IsLinked, GrowsOrClears, IsMoved, scans_of}
use Rattle.lazy_dfa.specs.Readers.{Reader}
use Rattle.lazy_dfa.specs.HalfSearchLaws.{HasNoQuitNear, scan_count, unit_count}
use Rattle.lazy_dfa.specs.HalfSearches.{half_search}
use Rattle.lazy_dfa.specs.SearchAnswers.{Answers, reported, progress_of, progress_by}
use Rattle.lazy_dfa.specs.Steps.{most_inserts}

-- the most states that it makes: one for the start of each scan, and one for each unit
abbrev pub half_made : Reader → Search → ℕ
half_made r q = scan_count r q + unit_count r q

-- the progress that it reports to its cache, and what it changes in the cache
pub record ReportsHalf (d : Dfa) (q : Search) (old new : CacheValue) (result : Result (Option HalfFound) MatchErrorKind) : Type 0 where
  -- If it succeeds and nothing was cleared, it reports the progress of all its scans.
  pub reported : OnOk result (new.clears ≡ old.clears → old.clears < greatest →
      progress_of new ≡ progress_by (reader d) q (progress_of old) (scans_of (reader d) q))
  -- If it fails and nothing was cleared, it reports the progress of its scans up to the failure. After a failed
  -- allocation, that is the progress up to a start or up to some unit.
  pub left_progress : IfErr result (λ e. new.clears ≡ old.clears → old.clears < greatest →
      LeavesProgress d q e (progress_of old) new)
  -- if the cache was cleared, what counts since the last clear
  pub told_since : (new.clears ≡ old.clears → ⊥) → IsReportedSince d q result new
  -- Its states are added one by one, and the cache is cleared only for one of these. After a clear the cache keeps at
  -- most the state from which the step to that state started.
  pub changes : Changes d (IsMadeBy d q) old new (half_made (reader d) q)

-- The function of values that it computes, and when it computes it.
pub record AnswersHalf (d : Dfa) (q : Search) (old new : CacheValue) (result : Result (Option HalfFound) MatchErrorKind) : Type 0 where
  -- it returns the result of `half_search`, or an allocation failed, or it gave up
  pub answer : Answers d new q result
  -- Only a failed allocation can make it fail if every clear is allowed, the mode is supported, and no quit byte is in
  -- the span or next to it.
  pub sure : clears_of d.options ≡ None → is_supported (reader d).starts_for_each_pattern q.anchored ≡ true →
      HasNoQuitNear (reader d) q.haystack q.start q.end → IfErr result (λ e. e ≡ NoMemory)
  -- if its path was known, it returns the result of `half_search`
  pub sure_if_linked : IsLinked d old q → result ≡ reported (half_search (reader d) q)

-- what it does to the cache
pub record LeavesCache (d : Dfa) (q : Search) (old new : CacheValue) (result : Result (Option HalfFound) MatchErrorKind) : Type 0 where
  -- the cache keeps what it has, or was cleared
  pub kept : GrowsOrClears d old new
  -- if it succeeds and the cache wasn't cleared, its whole path is known now
  pub linked : OnOk result (new.clears ≡ old.clears → old.clears < greatest → IsLinked d new q)
  -- if its path was known, it changes nothing in the cache but the progress
  pub moved : IsLinked d old q → IsMoved old new

-- What it makes. `m1` and `m2` say how many states were made, before and after. `n1` and `n2` say how many NFA states were
-- inserted into sets for them.
pub record CountsHalf (d : Dfa) (q : Search) (old : CacheValue) (m1 m2 n1 n2 : ℕ) : Type 0 where
  -- if its path was known, it makes nothing
  pub free : IsLinked d old q → (m2 ≡ m1) × (n2 ≡ n1)
  -- it makes at most `half_made` states, and inserts at most `most_inserts` NFA states into sets for each of them
  pub determinized : m2 ≤ m1 + half_made (reader d) q
  pub inserted : n2 ≤ n1 + half_made (reader d) q * most_inserts d

-- all of these
pub record MakesHalf (d : Dfa) (q : Search) (old new : CacheValue) (m1 m2 n1 n2 : ℕ)
    (result : Result (Option HalfFound) MatchErrorKind) : Type 0 where
  pub answers : AnswersHalf d q old new result
  pub cache : LeavesCache d q old new result
  pub work : CountsHalf d q old m1 m2 n1 n2
  -- it reports its progress to the cache, whatever its result is
  pub reports : ReportsHalf d q old new result
