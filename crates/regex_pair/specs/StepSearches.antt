-- The searches that a step of an iterator makes.
use Rattle.std.specs.Prelude.{◌≡◌, ◌+◌, ◌<◌, true, false, Option, None, Result, Ok, IfOk}
use Rattle.search_types.specs.declared.match_error.MatchErrorKind.{MatchErrorKind}
use Rattle.search_types.specs.AllAnswers.{is_repeat}
use Rattle.search_types.specs.Found.{Found}
use Rattle.search_types.specs.Inputs.{Search}
use Rattle.regex_pair.specs.Finding.{Finding, search_at}
use Rattle.regex_pair.specs.PairAnswers.{AnswersPair}
use Rattle.regex_pair.specs.Pairs.{AreCachesOf, Pair, PairCache, PairGrowsOrClears}
use Rattle.regex_pair.specs.PairProgress.{ReportsPair}

-- one of them: what it answers, what it leaves of the caches, and what it records in them
pub record SearchesOnce (p : Pair) (q : Search) (old new : PairCache) (result : Result (Option Found) MatchErrorKind) : Type 0 where
  pub answer : AnswersPair p new q result
  pub kept : PairGrowsOrClears p old new
  pub reported : ReportsPair p q old new result

-- A search whose work nobody counts: the same, and the caches stay those of the two automata. For a done span none is made.
pub record SearchesUncounted (p : Pair) (q : Search) (old new : PairCache) (result : Result (Option Found) MatchErrorKind) : Type 0 where
  pub own : AreCachesOf p new
  pub answer : AnswersPair p new q result
  pub done : q.end < q.start → (result ≡ Ok None) × (new ≡ old)
  pub kept : PairGrowsOrClears p old new
  pub reports : ReportsPair p q old new result

-- One search from where the iterator is. If its answer is a repeat, there is a second search from the next offset, over the
-- caches as the first one left them.
pub data SearchesNext (p : Pair) (at : Finding) (old new : PairCache) (result : Result (Option Found) MatchErrorKind) : Type 0 where
  searches_once : SearchesOnce p at.search old new result → IfOk result (λ o. is_repeat at.last o ≡ false) →
      SearchesNext p at old new result
  searches_twice : (middle : PairCache) (o : Option Found) → SearchesOnce p at.search old middle (Ok o) → is_repeat at.last o ≡ true →
      SearchesOnce p (search_at at.search (at.search.start + 1)) middle new result → SearchesNext p at old new result
