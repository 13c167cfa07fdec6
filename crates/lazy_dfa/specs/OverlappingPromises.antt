-- What a call of an overlapping search guarantees, forward and in reverse alike: about its result, its cache and its
-- work.
use Rattle.std.specs.Prelude.{◌≡◌, ℕ, ◌+◌, ◌*◌, ◌<◌, ◌≤◌, false, None, Result, IfErr, OnOk, ⊤}
use Rattle.search_types.specs.declared.match_error.MatchErrorKind.{MatchErrorKind}
use Rattle.search_types.specs.declared.match_error.MatchErrorKind.TheVariants.{NoMemory}
use Rattle.search_types.specs.Inputs.{Search}
use Rattle.lazy_dfa.specs.Caches.{CacheValue, greatest}
use Rattle.lazy_dfa.specs.Changes.{Changes}
use Rattle.lazy_dfa.specs.ConfigValue.{clears_of}
use Rattle.lazy_dfa.specs.declared.overlapping.overlapping_state.OverlappingPosition.{OverlappingPosition}
use Rattle.lazy_dfa.specs.declared.overlapping.overlapping_state.OverlappingPosition.TheVariants.{Ended}
use Rattle.lazy_dfa.specs.Dfas.{Dfa, reader}
use Rattle.lazy_dfa.specs.Linked.{GrowsOrClears}
use Rattle.lazy_dfa.specs.SearchAnswers.{progress_of}
use Rattle.lazy_dfa.specs.Steps.{most_inserts}
use Rattle.lazy_dfa.specs.Overlapping.{rest_of, OverlappingValue}
use Rattle.lazy_dfa.specs.OverlappingAnswers.{AnswersOverlapping, ReportsNext, failed_by, progress_by_call, LeavesCall, IsCallReportedSince}
use Rattle.lazy_dfa.specs.OverlappingAnswers.{reads_on, call_starts}
use Rattle.lazy_dfa.specs.OverlappingAnswers.{call_made, IsMadeOnCall}

-- the progress that it reports to its cache, and what it changes in the cache
pub record ReportsCall (d : Dfa) (q : Search) (w : OverlappingPosition) (old new : CacheValue) (result : Result ⊤ MatchErrorKind) : Type 0
  where
    -- if it succeeds and nothing was cleared, it reports the progress of the whole call
    pub reported : OnOk result (new.clears ≡ old.clears → old.clears < greatest →
        progress_of new ≡ progress_by_call (reader d) q w (progress_of old))
    -- If it fails and nothing was cleared, it reports its progress up to the failure. After a failed allocation, that is
    -- the progress up to its start or up to some unit.
    pub left_progress : IfErr result (λ e. new.clears ≡ old.clears → old.clears < greatest →
        LeavesCall d q w e (progress_of old) new)
    -- if the cache was cleared, what counts since the last clear
    pub told_since : (new.clears ≡ old.clears → ⊥) → IsCallReportedSince d q w result new
    -- Its states are added one by one, and the cache is cleared only for one of these. After a clear the cache keeps at
    -- most the state from which the step to that state started.
    pub changes : Changes d (IsMadeOnCall d q w) old new (call_made (reader d) q w)

-- what it returns, and the state of the search after it
pub record AnswersCall (d : Dfa) (q : Search) (new : CacheValue) (w : OverlappingPosition) (after : OverlappingValue)
    (result : Result ⊤ MatchErrorKind) : Type 0 where
  -- it reports the next end of what is left, or an allocation failed, or it gave up
  pub answer : AnswersOverlapping d new q w after result
  -- if it reports no end, the search has ended
  pub ends : OnOk result (after.found ≡ None → after.walk ≡ Ended)
  -- if the call fails, the search has failed
  pub failed : IfErr result (λ e. after ≡ failed_by e)
  -- Only a failed allocation can make it fail if every clear is allowed and what is left ends without an error.
  pub sure : clears_of d.options ≡ None → (rest_of (reader d) q w).rejection ≡ None → IfErr result (λ e. e ≡ NoMemory)
  -- a call that has no start to make and nothing to read reports what comes next
  pub still : call_starts q w ≡ 0 → reads_on (reader d) q w ≡ false → ReportsNext (reader d) q w after result

-- what it does to the cache
pub record CallLeavesCache (d : Dfa) (q : Search) (w : OverlappingPosition) (old new : CacheValue) : Type 0 where
  -- the cache keeps what it has, or was cleared
  pub kept : GrowsOrClears d old new
  -- a call that has no start to make and nothing to read leaves the cache as it is
  pub same : call_starts q w ≡ 0 → reads_on (reader d) q w ≡ false → new ≡ old

-- What it makes. `m1` and `m2` say how many states were made, before and after. `n1` and `n2` say how many NFA states were
-- inserted into sets for them.
pub record CountsCall (d : Dfa) (q : Search) (w : OverlappingPosition) (m1 m2 n1 n2 : ℕ) : Type 0 where
  -- a call that has no start to make and nothing to read makes nothing
  pub free : call_starts q w ≡ 0 → reads_on (reader d) q w ≡ false → (m2 ≡ m1) × (n2 ≡ n1)
  -- it makes at most `call_made` states, and inserts at most `most_inserts` NFA states into sets for each of them
  pub determinized : m2 ≤ m1 + call_made (reader d) q w
  pub inserted : n2 ≤ n1 + call_made (reader d) q w * most_inserts d
