-- Which matches were taken one after the other, as a loop over an iterator keeps it.
use Rattle.std.specs.Prelude.{◌≡◌, ◌≤◌, false, List, ◌++◌, None}
use Rattle.search_types.specs.Chains.{IsTakenList, IsWholeTakenList}
use Rattle.search_types.specs.Found.{Found}
use Rattle.search_types.specs.Inputs.{Search}
use Rattle.regex_pair.specs.declared.find_matches.FindMatches.{FindMatches}
use Rattle.regex_pair.specs.Finding.{Finding, AnswersAt, search_at}
use Rattle.regex_pair.specs.FindSteps.{FindsNext, finds_from, searches_by}
use Rattle.regex_pair.specs.Pairs.{Pair}

-- The matches `fs` were taken, and then the iterator is at `at`. Take any matches that follow from there on: appended to `fs`, they are
-- a chain of answers to the search. If they are all that follow, the whole is all answers. The iterator isn't before the search's start.
-- Neither an error nor the end has come yet.
pub record AreTaken (p : Pair) (q : Search) (fs : List Found) (at : Finding) : Type 0 where
  pub begun : at.is_over ≡ false
  pub here : at.search ≡ search_at q at.search.start
  pub from : q.start ≤ at.search.start
  pub chain : (rest : List Found) → IsTakenList (AnswersAt p q) at.last at.search.start rest →
      IsTakenList (AnswersAt p q) None q.start (fs ++ rest)
  pub whole : (rest : List Found) → IsWholeTakenList (AnswersAt p q) at.last at.search.start rest →
      IsWholeTakenList (AnswersAt p q) None q.start (fs ++ rest)

-- an iterator over the matches of the search gave these, and then came to its end
pub record IsWholeList (p : Pair) (q : Search) (fs : List Found) : Type 0 where
  pub old : FindMatches
  pub new : FindMatches
  pub regex : searches_by old ≡ p
  pub taken : AreTaken p q fs (finds_from old)
  pub over : FindsNext old None new
