-- Matches one after the other: the state of an iterator over them, and what it returns.
use Rattle.std.specs.Prelude.{◌≡◌, ◌⊎◌, ℕ, suc, ◌+◌, ◌-◌, ◌≤◌, Bool, true, false, Option, Some, None, Result, Ok, Err, if◌then◌else◌}
use Rattle.search_types.specs.declared.match_error.MatchErrorKind.{MatchErrorKind}
use Rattle.search_types.specs.AllAnswers.{is_repeat}
use Rattle.search_types.specs.Chains.{IsNextTaken}
use Rattle.search_types.specs.Found.{Found}
use Rattle.search_types.specs.Inputs.{Search, IsWithin, with_span}
use Rattle.regex_pair.specs.Joined.{joined}
use Rattle.regex_pair.specs.Pairs.{Pair, PairCache, PairGrowsOrClears}
use Rattle.regex_pair.specs.PairAnswers.{AnswersPair}

-- what is left: a search from the end of the last match on
pub record Finding : Type 0 where
  pub search : Search
  pub last : Option ℕ  -- the end of the last match
  pub is_over : Bool

-- before the first match
abbrev pub finding_all : Search → Finding
finding_all q = record { search = q; last = None; is_over = false }

-- the search from another offset on
abbrev pub search_at : Search → ℕ → Search
search_at q k = with_span k q.end q

-- what two automata answer from an offset on
abbrev pub AnswersAt : Pair → Search → ℕ → Option Found → Type 0
AnswersAt p q k o = joined p (search_at q k) ≡ Ok o

-- the next match, or none
abbrev pub IsNextFound : Pair → Finding → Option Found → Type 0
IsNextFound p at o = IsNextTaken (AnswersAt p at.search) at.last at.search.start o

-- The next match is searched for from this offset: the current one or, if the answer from there is a repeat, the next one.
abbrev pub IsAskedAt : Pair → Finding → ℕ → Type 0
IsAskedAt p at k = (k ≡ at.search.start) ⊎
    ((k ≡ at.search.start + 1) × ((o : Option Found) × AnswersAt p at.search at.search.start o × (is_repeat at.last o ≡ true)))

-- after a match
abbrev pub behind : Finding → Found → Finding
behind at f = record { search = search_at at.search f.end; last = Some f.end; is_over = false }

-- what the searches of a step answer: the next match or none, or the error of one of them
abbrev pub IsNextAnswer : Pair → Finding → PairCache → Result (Option Found) MatchErrorKind → Type 0
IsNextAnswer p at after (Ok o) = IsNextFound p at o
IsNextAnswer p at after (Err e) = (k : ℕ) × IsAskedAt p at k × AnswersPair p after (search_at at.search k) (Err e)

-- One step: the caches that it uses, the item that it returns, and the state of the iterator afterwards. A match is the next
-- one, and after the last one there is none. An error is that of one of the two searches. After an error and after the end,
-- the iterator returns nothing any more.
pub data Finds (p : Pair) (old new : Finding) (before after : PairCache) (item : Option (Result Found MatchErrorKind)) : Type 0 where
  finds_next : (f : Found) → old.is_over ≡ false → IsNextFound p old (Some f) → item ≡ Some (Ok f) → new ≡ behind old f →
      Finds p old new before after item
  finds_none : old.is_over ≡ false → IsNextFound p old None → item ≡ None → new.is_over ≡ true → Finds p old new before after item
  fails : (k : ℕ) (e : MatchErrorKind) → old.is_over ≡ false → IsAskedAt p old k → AnswersPair p after (search_at old.search k) (Err e) →
      item ≡ Some (Err e) → new.is_over ≡ true → Finds p old new before after item
  is_over : old.is_over ≡ true → item ≡ None → new ≡ old → after ≡ before → Finds p old new before after item

-- What a step leaves of the caches: it makes at most two searches. Each of them cleared the caches, or kept what they name
-- and know.
abbrev pub KeepsTwice : Pair → PairCache → PairCache → Type 0
KeepsTwice p before after = (middle : PairCache) × PairGrowsOrClears p before middle × PairGrowsOrClears p middle after

-- ---- how many items come

-- the search goes on from the end of the last match, if there is one, which isn't past its own end
abbrev pub IsAfterLast : Option ℕ → Search → Type 0
IsAfterLast None q = Unit {0}
IsAfterLast (Some last) q = (q.start ≡ last) × (last ≤ q.end)

-- the iterator may go on: its search is one of its haystack, from the end of the last match on
pub record IsPositioned (at : Finding) : Type 0 where
  pub within : IsWithin at.search
  pub behind : IsAfterLast at.last at.search

-- An upper bound on the number of items, if n offsets are left from the current one on: a match for each offset, and an error. The
-- match for the current offset may be empty only if no match ended there.
abbrev pub most_after : Option ℕ → ℕ → ℕ
most_after None n = suc n
most_after (Some last) n = n

abbrev pub most_left : Finding → ℕ
most_left at = if at.is_over then 0 else most_after at.last (at.search.end + 1 - at.search.start)
