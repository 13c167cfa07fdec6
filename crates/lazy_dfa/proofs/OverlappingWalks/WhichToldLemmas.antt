-- What the calls of an overlapping search over a whole span report, one after the other. The ID at which the search stopped doesn't affect
-- what it reports.
use Rattle.std.proofs.Common.{◌≡◌, ℕ, suc, ◌+◌, ◌≤◌, true, false, true≢false, refl, ap}
use Rattle.std.proofs.Common.{◌∙◌, inl, inr, subst}
use Rattle.std.specs.Prelude.{Result, Ok, Err, min, ⊤}
use Rattle.search_types.specs.declared.match_error.MatchErrorKind.{MatchErrorKind}
use Rattle.search_types.specs.Inputs.{Search}
use Rattle.lazy_dfa.specs.Caches.{CacheValue, greatest}
use Rattle.lazy_dfa.specs.declared.overlapping.overlapping_state.Stop.{Stop}
use Rattle.lazy_dfa.specs.declared.overlapping.overlapping_state.OverlappingPosition.{OverlappingPosition}
use Rattle.lazy_dfa.specs.declared.overlapping.overlapping_state.OverlappingPosition.TheVariants.{Fresh, Ended, Failed, Stopped}
use Rattle.lazy_dfa.specs.Dfas.{Dfa, reader}
use Rattle.lazy_dfa.specs.Linked.{HasCleared, GrowsOrClears}
use Rattle.lazy_dfa.specs.Readers.{Reader}
use Rattle.lazy_dfa.specs.SearchAnswers.{progress_of, ProgressValue}
use Rattle.lazy_dfa.specs.OverlappingAnswers.{without_id, overlapping_after, overlapping_after_calls, progress_by_call, GivesUpOn, at_start}
use Rattle.lazy_dfa.specs.OverlappingAnswers.{at_unit}
use Rattle.lazy_dfa.specs.OverlappingAnswers.{LeavesCall, left_failed, left_at_start, left_at_unit, ReportsCallAnew, anew_at_start, anew_at}
use Rattle.lazy_dfa.specs.OverlappingAnswers.{FailsCallAnew, fails_behind_start, fails_behind, IsCallReported, progress_last, told_before}
use Rattle.lazy_dfa.specs.OverlappingAnswers.{left_last, left_before, IsReportedAfter, IsLeftAfter}
use Rattle.lazy_dfa.proofs.CacheChanges.LinkedLemmas.{cleared_grows}

-- ---- without the ID

not_fresh : {P : Type 0} (stop : Stop) → Stopped stop ≡ Fresh → P
not_fresh stop e = let never : true ≡ false = cc in absurd (true≢false never)

not_failed : {P : Type 0} (stop : Stop) (e : MatchErrorKind) → Stopped stop ≡ Failed e → P
not_failed stop e is = let never : true ≡ false = cc in absurd (true≢false never)

pub same_behind : (r : Reader) (q : Search) (w : OverlappingPosition) → overlapping_after r q w ≡ overlapping_after r q (without_id w)
same_behind r q Fresh = refl
same_behind r q Ended = refl
same_behind r q (Failed e) = refl
same_behind r q (Stopped stop) = refl

module _ (d : Dfa) (v : CacheValue) (q : Search) (x : ℕ) where
  stopped_gives_up : (stop : Stop) → GivesUpOn d v q (Stopped stop) x → GivesUpOn d v q (without_id (Stopped stop)) x
  stopped_gives_up stop (at_start fresh place lacks free) = not_fresh stop fresh
  stopped_gives_up stop (at_unit k less place lacks runs free quits) = at_unit k less place lacks runs (λ f. not_fresh _ f) quits

  pub same_give_up : (w : OverlappingPosition) → GivesUpOn d v q w x → GivesUpOn d v q (without_id w) x
  same_give_up Fresh g = g
  same_give_up Ended g = g
  same_give_up (Failed e) g = g
  same_give_up (Stopped stop) g = stopped_gives_up stop g

module _ (d : Dfa) (q : Search) (stop : Stop) where
  abbrev bare : OverlappingPosition
  bare = without_id (Stopped stop)

  stopped_leaves : (e : MatchErrorKind) (t : ProgressValue) (new : CacheValue) → LeavesCall d q (Stopped stop) e t new →
      LeavesCall d q bare e t new
  stopped_leaves e t new (left_failed is same) = not_failed stop e is
  stopped_leaves e t new (left_at_start fresh refused same) = not_fresh stop fresh
  stopped_leaves e t new (left_at_unit k less there quiet is) = left_at_unit k less there quiet is

  stopped_anew : (new : ProgressValue) → ReportsCallAnew (reader d) q (Stopped stop) new → ReportsCallAnew (reader d) q bare new
  stopped_anew new (anew_at_start fresh s is reported) = not_fresh stop fresh
  stopped_anew new (anew_at m less is) = anew_at m less is

  stopped_fails : (e : MatchErrorKind) (new : CacheValue) → FailsCallAnew d q (Stopped stop) e new → FailsCallAnew d q bare e new
  stopped_fails e new (fails_behind_start fresh s is left) = not_fresh stop fresh
  stopped_fails e new (fails_behind m k le less there quiet is) = fails_behind m k le less there quiet is

module _ (d : Dfa) (q : Search) (old new : CacheValue) where
  stopped_told : (stop : Stop) (result : Result ⊤ MatchErrorKind) → IsCallReported d q (Stopped stop) result old new →
      IsCallReported d q (without_id (Stopped stop)) result old new
  stopped_told stop (Ok u) (inl same) = inl same
  stopped_told stop (Ok u) (inr anew) = inr (anew.0, stopped_anew d q stop (progress_of new) anew.1)
  stopped_told stop (Err e) (inl same) = inl (stopped_leaves d q stop e (progress_of old) new same.0, same.1)
  stopped_told stop (Err e) (inr anew) = inr (anew.0, stopped_fails d q stop e new anew.1)

  same_told : (w : OverlappingPosition) (result : Result ⊤ MatchErrorKind) → IsCallReported d q w result old new →
      IsCallReported d q (without_id w) result old new
  same_told Fresh result t = t
  same_told Ended result t = t
  same_told (Failed e) result t = t
  same_told (Stopped stop) result t = stopped_told stop result t

-- ---- call by call

module _ (d : Dfa) (q : Search) (old now next : CacheValue) (w : OverlappingPosition) (k : ℕ) (kept : GrowsOrClears d now next)
    (behind : without_id w ≡ overlapping_after_calls (reader d) q k) (so_far : IsReportedAfter (reader d) q k old now) where
  abbrev r : Reader
  r = reader d

  abbrev there : OverlappingPosition
  there = overlapping_after_calls r q k

  cleared_next : HasCleared now next → now.clears ≡ old.clears → HasCleared old next
  cleared_next cleared same = subst (λ (n : ℕ). min (n + 1) greatest ≤ next.clears) same cleared

  pub told_next : IsCallReported d q w (Ok tt) now next → IsReportedAfter r q (suc k) old next
  told_next call = by so_far (subst (λ (x : OverlappingPosition). IsCallReported d q x (Ok tt) now next) behind (same_told d q now next w
      (Ok tt) call))
    where
      by : IsReportedAfter r q k old now → IsCallReported d q there (Ok tt) now next → IsReportedAfter r q (suc k) old next
      by (inl s) (inl c) = inl (c.0 ∙ ap (progress_by_call r q there) s.0, c.1 ∙ s.1)
      by (inl s) (inr c) = inr (cleared_next c.0 s.1, progress_last k (progress_of next) c.1)
      by (inr s) (inl c) = inr (cleared_grows d old now next s.0 kept, told_before k (progress_of now) (progress_of next) s.1 c.0)
      by (inr s) (inr c) = inr (cleared_grows d old now next s.0 kept, progress_last k (progress_of next) c.1)

  pub left_next : (e : MatchErrorKind) → IsCallReported d q w (Err e) now next → IsLeftAfter d q e k old next
  left_next e call = by so_far (subst (λ (x : OverlappingPosition). IsCallReported d q x (Err e) now next) behind (same_told d q now next w
      (Err e) call))
    where
      by : IsReportedAfter r q k old now → IsCallReported d q there (Err e) now next → IsLeftAfter d q e k old next
      by (inl s) (inl c) = inl (subst (λ (t : ProgressValue). LeavesCall d q there e t next) s.0 c.0, c.1 ∙ s.1)
      by (inl s) (inr c) = inr (cleared_next c.0 s.1, left_last c.1)
      by (inr s) (inl c) = inr (cleared_grows d old now next s.0 kept, left_before (progress_of now) s.1 c.0)
      by (inr s) (inr c) = inr (cleared_grows d old now next s.0 kept, left_last c.1)

pub none_told : (r : Reader) (q : Search) (v : CacheValue) → IsReportedAfter r q 0 v v
none_told r q v = inl (refl, refl)
