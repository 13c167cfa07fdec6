-- Whether there is a match: a half search forward alone.
use Rattle.std.specs.Prelude.{◌≡◌, ◌⊎◌, ℕ, not, Bool, true, false, Option, Some, None, Result, Ok, Err}
use Rattle.search_types.specs.declared.match_error.MatchErrorKind.{MatchErrorKind}
use Rattle.search_types.specs.declared.match_error.MatchErrorKind.TheVariants.{Quit, GaveUp, UnsupportedAnchored, NoMemory}
use Rattle.search_types.specs.Inputs.{Search, with_earliest}
use Rattle.lazy_dfa.specs.Dfas.{reader}
use Rattle.lazy_dfa.specs.Readers.{Reader, HalfAnswer, found, quit, unsupported}
use Rattle.lazy_dfa.specs.HalfSearches.{half_search}
use Rattle.regex_pair.specs.Pairs.{Pair, PairCache}
use Rattle.regex_pair.specs.PairAnswers.{HalfGivesUp}

-- The search that finds out whether there is a match. If every end counts, the earliest end is enough. Otherwise a later
-- end may count even if the earliest doesn't.
abbrev pub match_search : Reader → Search → Search
match_search r q = with_earliest (not r.between_characters) q

abbrev pub is_some_match : Option (ℕ × ℕ) → Bool
is_some_match None = false
is_some_match (Some e) = true

abbrev pub match_result : HalfAnswer → Result Bool MatchErrorKind
match_result (found o) = Ok (is_some_match o)
match_result (quit b x) = Err (Quit b x)
match_result (unsupported mode) = Err (UnsupportedAnchored mode)

-- whether two automata have a match
abbrev pub has_match : Pair → Search → Result Bool MatchErrorKind
has_match p q = match_result (half_search (reader p.forward) (match_search (reader p.forward) q))

-- The answer is the one of `has_match`, whatever the caches hold. Otherwise the search is out of memory, or it gave up.
abbrev pub AnswersMatch : Pair → PairCache → Search → Result Bool MatchErrorKind → Type 0
AnswersMatch p c q result = (result ≡ has_match p q) ⊎ (result ≡ Err NoMemory) ⊎
    ((x : ℕ) × (result ≡ Err (GaveUp x)) × HalfGivesUp p.forward c.forward (match_search (reader p.forward) q) x)
