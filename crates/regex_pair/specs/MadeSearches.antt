-- What the functions that make the half searches of a pair, one after the other, promise.
use Rattle.std.specs.Prelude.{◌≡◌, ◌⊎◌, ℕ, ◌+◌, ◌*◌, ◌<◌, ◌≤◌, Bool, true, false, Option, None, Result, Ok, IfErr, IfOk, OnOk}
use Rattle.search_types.specs.declared.match_error.MatchErrorKind.{MatchErrorKind}
use Rattle.search_types.specs.declared.match_error.MatchErrorKind.TheVariants.{NoMemory, NotAPair}
use Rattle.search_types.specs.Found.{Found, HalfFound}
use Rattle.search_types.specs.Inputs.{Search}
use Rattle.search_types.specs.Modes.{is_supported}
use Rattle.lazy_dfa.specs.Caches.{CacheValue, greatest}
use Rattle.lazy_dfa.specs.ConfigValue.{clears_of}
use Rattle.lazy_dfa.specs.Dfas.{Dfa, reader}
use Rattle.lazy_dfa.specs.Linked.{IsLinked, GrowsOrClears, IsMoved, scans_of}
use Rattle.lazy_dfa.specs.HalfSearchLaws.{HasNoQuitNear}
use Rattle.lazy_dfa.specs.SearchAnswers.{progress_of, progress_by}
use Rattle.lazy_dfa.specs.SearchPromises.{MakesHalf, half_made}
use Rattle.lazy_dfa.specs.Steps.{most_inserts}
use Rattle.regex_pair.specs.Joined.{back_from, joined}
use Rattle.regex_pair.specs.Matching.{AnswersMatch, has_match, match_search}
use Rattle.regex_pair.specs.PairAnswers.{AnswersPair, ArePathsLinked, GoesBack, IsBackLinked, back_made}
use Rattle.regex_pair.specs.Pairs.{AreCachesOf, Pair, PairCache, PairGrowsOrClears, IsPairMoved}
use Rattle.regex_pair.specs.PairProgress.{ReportsMatch, ReportsPair, is_some_half, with_half}
use Rattle.regex_pair.specs.Reach.{HasPairReach}

-- the search back from an end
pub record MakesBack (p : Pair) (q : Search) (e : HalfFound) (old new : CacheValue) (m1 m2 n1 n2 : ℕ)
    (result : Result (Option Found) MatchErrorKind) : Type 0 where
  pub half : Result (Option HalfFound) MatchErrorKind
  pub made : MakesHalf p.reverse (back_from q e.offset) old new m1 m2 n1 n2 half
  pub answer : result ≡ with_half e half

-- a half search that finds out whether there is an end
pub record FindsEnd (d : Dfa) (q : Search) (old new : CacheValue) (m1 m2 n1 n2 : ℕ) (result : Result Bool MatchErrorKind) : Type 0 where
  pub half : Result (Option HalfFound) MatchErrorKind
  pub made : MakesHalf d q old new m1 m2 n1 n2 half
  pub answer : result ≡ is_some_half half

-- A search over both. The numbers say how many states were made, and how many names were put into sets for them, before and after.
pub record MakesPair (p : Pair) (q : Search) (old new : PairCache) (m1 m2 n1 n2 : ℕ)
    (result : Result (Option Found) MatchErrorKind) : Type 0 where
  -- it answers what is joined, or is out of memory, or one of both gave up
  pub answer : AnswersPair p new q result
  -- If no minimum number of clears is set, the mode is supported and no quit byte is in or next to the span, then there are two
  -- possible errors: out of memory, and that the two aren't a pair.
  pub sure : clears_of p.forward.options ≡ None → clears_of p.reverse.options ≡ None →
      is_supported (reader p.forward).starts_for_each_pattern q.anchored ≡ true →
      HasNoQuitNear (reader p.forward) q.haystack q.start q.end → HasNoQuitNear (reader p.reverse) q.haystack q.start q.end →
      IfErr result (λ e. (e ≡ NoMemory) ⊎ (e ≡ NotAPair))
  -- each cache keeps what it has, or was cleared; if no search goes back, the second stays as it is
  pub kept : PairGrowsOrClears p old new
  pub untouched : ((e : ℕ × ℕ) → GoesBack p q e → ⊥) → new.reverse ≡ old.reverse
  -- if the search answers and a cache wasn't cleared, the path of the search over that cache is known now
  pub linked : OnOk result (new.forward.clears ≡ old.forward.clears → old.forward.clears < greatest → IsLinked p.forward new.forward q)
  pub back_linked : OnOk result (new.reverse.clears ≡ old.reverse.clears → old.reverse.clears < greatest → IsBackLinked p new.reverse q)
  -- and the cache recorded all that the scans of the search report
  pub is_reported : OnOk result (new.forward.clears ≡ old.forward.clears → old.forward.clears < greatest →
      progress_of new.forward ≡ progress_by (reader p.forward) q (progress_of old.forward) (scans_of (reader p.forward) q))
  pub back_told : OnOk result (new.reverse.clears ≡ old.reverse.clears → old.reverse.clears < greatest → (e : ℕ × ℕ) → GoesBack p q e →
      progress_of new.reverse ≡ progress_by (reader p.reverse) (back_from q e.0) (progress_of old.reverse)
      (scans_of (reader p.reverse) (back_from q e.0)))
  -- what both caches recorded, whatever the search answers
  pub reports : ReportsPair p q old new result
  -- over known paths, only how far searches came changes, no state is made, and the search answers
  pub moved : ArePathsLinked p old q → IsPairMoved old new
  pub free : ArePathsLinked p old q → (m2 ≡ m1) × (n2 ≡ n1)
  pub sure_if_linked : ArePathsLinked p old q → result ≡ joined p q
  -- the searches make few states, and put few names into sets for them
  pub determinized : m2 ≤ m1 + (half_made (reader p.forward) q + back_made p q)
  pub inserted : n2 ≤ n1 + (half_made (reader p.forward) q * most_inserts p.forward + back_made p q * most_inserts p.reverse)

-- What such a search promises its callers. The caches stay those of the two automata. For a done span none is made, and `Still` says that none
-- is counted. A match, or none, comes with an offset up to which was read.
pub record SearchesPair (p : Pair) (q : Search) (old new : PairCache) (m1 m2 n1 n2 : ℕ) (Still : Type 0)
    (result : Result (Option Found) MatchErrorKind) : Type 0 where
  pub own : AreCachesOf p new
  pub done : q.end < q.start → (result ≡ Ok None) × (new ≡ old) × Still
  pub search : MakesPair p q old new m1 m2 n1 n2 result
  pub reach : IfOk result (λ o. HasPairReach p q o)

-- the search that finds out whether there is a match, and leaves the second cache as it is
pub record MakesMatch (p : Pair) (q : Search) (old new : PairCache) (m1 m2 n1 n2 : ℕ) (result : Result Bool MatchErrorKind) : Type 0 where
  -- it answers what its half search does, or is out of memory, or that one gave up
  pub answer : AnswersMatch p new q result
  -- If no minimum number of clears is set, the mode is supported and no quit byte is in or next to the span, then out of memory is
  -- the only possible error.
  pub sure : clears_of p.forward.options ≡ None → is_supported (reader p.forward).starts_for_each_pattern q.anchored ≡ true →
      HasNoQuitNear (reader p.forward) q.haystack q.start q.end → IfErr result (λ e. e ≡ NoMemory)
  -- its cache keeps what it has, or was cleared; the second cache stays as it is
  pub kept : GrowsOrClears p.forward old.forward new.forward
  pub untouched : new.reverse ≡ old.reverse
  -- if the search answers and its cache wasn't cleared, the path of the search is known now
  pub linked : OnOk result (new.forward.clears ≡ old.forward.clears → old.forward.clears < greatest →
      IsLinked p.forward new.forward (match_search (reader p.forward) q))
  -- and the cache recorded all that its scans report
  pub is_reported : OnOk result (new.forward.clears ≡ old.forward.clears → old.forward.clears < greatest →
      progress_of new.forward ≡ progress_by (reader p.forward) (match_search (reader p.forward) q) (progress_of old.forward)
      (scans_of (reader p.forward) (match_search (reader p.forward) q)))
  -- what the cache recorded, whatever the answer is
  pub reports : ReportsMatch p q old new result
  -- over a known path, only how far searches came changes, no state is made, and the search answers
  pub moved : IsLinked p.forward old.forward (match_search (reader p.forward) q) → IsMoved old.forward new.forward
  pub free : IsLinked p.forward old.forward (match_search (reader p.forward) q) → (m2 ≡ m1) × (n2 ≡ n1)
  pub sure_if_linked : IsLinked p.forward old.forward (match_search (reader p.forward) q) → result ≡ has_match p q
  -- it makes few states, and puts few names into sets for them
  pub determinized : m2 ≤ m1 + half_made (reader p.forward) (match_search (reader p.forward) q)
  pub inserted : n2 ≤ n1 + half_made (reader p.forward) (match_search (reader p.forward) q) * most_inserts p.forward

-- What it promises its callers. The caches stay those of the two automata. For a done span no search is made, and `Still` says that none is
-- counted.
pub record SearchesMatch (p : Pair) (q : Search) (old new : PairCache) (m1 m2 n1 n2 : ℕ) (Still : Type 0) (result : Result Bool MatchErrorKind)
    : Type 0 where
  pub own : AreCachesOf p new
  pub done : q.end < q.start → (result ≡ Ok false) × (new ≡ old) × Still
  pub search : MakesMatch p q old new m1 m2 n1 n2 result
