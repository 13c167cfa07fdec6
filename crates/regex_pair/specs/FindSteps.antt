-- What a contract sees of an iterator over matches, and its steps.
use Rattle.std.specs.Prelude.{◌≡◌, ◌<◌, ℕ, false, Option, None, Result}
use Rattle.std.specs.Result.{result_transpose}
use Rattle.std.specs.Borrow.{GName}
use Rattle.search_types.specs.declared.match_error.MatchErrorKind.{MatchErrorKind}
use Rattle.search_types.specs.Found.{Found}
use Rattle.search_types.specs.Inputs.{Search}
use Rattle.regex_pair.specs.declared.find_matches.FindMatches.{FindMatches}
use Rattle.regex_pair.specs.Finding.{Finding, Finds, IsPositioned, KeepsTwice, most_left}
use Rattle.regex_pair.specs.Pairs.{Pair, PairCache, AreCachesOf}
use Rattle.regex_pair.specs.StepSearches.{SearchesNext}

-- the automata over which it searches
abbrev pub searches_by : FindMatches → Pair
searches_by it = it.re.now

-- what is left
abbrev pub search_of : FindMatches → Search
search_of it = record { haystack = it.haystack.now; start = it.start; end = it.end; anchored = it.anchored; earliest = it.earliest }

abbrev pub finds_from : FindMatches → Finding
finds_from it = record { search = search_of it; last = it.last; is_over = it.is_over }

-- the caches to which its reference points
abbrev pub caches_of : FindMatches → PairCache
caches_of it = it.cache.now

-- the ghost name of this reference
abbrev pub borrow_name_of : FindMatches → GName
borrow_name_of it = it.cache.ghost_name

-- The iterator may go on: the caches belong to its automata, and it is right after the last match.
pub record MayGoOn (it : FindMatches) : Type 0 where
  pub own : AreCachesOf (searches_by it) (caches_of it)
  pub placed : IsPositioned (finds_from it)

-- One step. It uses the same automata and the same reference, and the iterator may go on, whatever the step returned. What it returns
-- depends on what its one or two searches answer. If the span that is left is done, it makes no search, and the caches stay as they
-- are.
pub record FindsNext (old : FindMatches) (item : Option (Result Found MatchErrorKind)) (new : FindMatches) : Type 0 where
  pub same_regex : searches_by new ≡ searches_by old
  pub same_reference : borrow_name_of new ≡ borrow_name_of old
  pub finds : Finds (searches_by old) (finds_from old) (finds_from new) (caches_of old) (caches_of new) item
  pub kept : KeepsTwice (searches_by old) (caches_of old) (caches_of new)
  pub searches : old.is_over ≡ false → (result : Result (Option Found) MatchErrorKind) × (item ≡ result_transpose result) ×
      SearchesNext (searches_by old) (finds_from old) (caches_of old) (caches_of new) result
  pub done : old.end < old.start → (item ≡ None) × (caches_of new ≡ caches_of old)
  pub goes_on : MayGoOn new

-- an upper bound on the number of items that are left
abbrev pub items_left : FindMatches → ℕ
items_left it = most_left (finds_from it)
