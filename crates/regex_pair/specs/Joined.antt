-- How the answers of two half searches are joined, as a function of values that knows no cache.
use Rattle.std.specs.Prelude.{ℕ, ◌==◌, ◌||◌, Bool, false, Option, Some, None, Result, Ok, Err, if◌then◌else◌}
use Rattle.search_types.specs.declared.anchored.Anchored.TheVariants.{Yes}
use Rattle.search_types.specs.declared.match_error.MatchErrorKind.{MatchErrorKind}
use Rattle.search_types.specs.declared.match_error.MatchErrorKind.TheVariants.{Quit, UnsupportedAnchored, NotAPair}
use Rattle.search_types.specs.Found.{Found}
use Rattle.search_types.specs.Inputs.{Search}
use Rattle.search_types.specs.Modes.{is_anchored}
use Rattle.lazy_dfa.specs.Dfas.{reader}
use Rattle.lazy_dfa.specs.Readers.{Reader, HalfAnswer, found, quit, unsupported}
use Rattle.lazy_dfa.specs.HalfSearches.{half_search}
use Rattle.regex_pair.specs.Pairs.{Pair}

-- Whether the start of a match with this end is known without a search back. It is if the end is where the search starts, if
-- the search is anchored, or if the automaton finds no start further on.
abbrev pub is_start_known : Reader → Search → ℕ → Bool
is_start_known r q end = end == q.start || is_anchored q.anchored || r.automaton.start_anchored == r.automaton.start_unanchored

-- the search back from an end: over the bytes from the search's start on, for the least start of a match that ends there
abbrev pub back_from : Search → ℕ → Search
back_from q end = record { haystack = q.haystack; start = q.start; end = end; anchored = Yes; earliest = false }

-- a match of the pattern of this end, from the search's start on
abbrev pub from_start : Search → ℕ × ℕ → Found
from_start q e = record { pattern = e.1; start = q.start; end = e.0 }

-- the match with this end, by what the search back answers; if that finds no start, the automata aren't a pair
abbrev pub with_start : ℕ × ℕ → HalfAnswer → Result (Option Found) MatchErrorKind
with_start e (found (Some s)) = Ok (Some (record { pattern = e.1; start = s.0; end = e.0 }))
with_start e (found None) = Err NotAPair
with_start e (quit b x) = Err (Quit b x)
with_start e (unsupported mode) = Err (UnsupportedAnchored mode)

-- the answer by what the search for an end answers
abbrev pub answer_by_end : Reader → Reader → Search → HalfAnswer → Result (Option Found) MatchErrorKind
answer_by_end f r q (found (Some e)) = if is_start_known f q e.0 then Ok (Some (from_start q e)) else with_start e
    (half_search r (back_from q e.0))
answer_by_end f r q (found None) = Ok None
answer_by_end f r q (quit b x) = Err (Quit b x)
answer_by_end f r q (unsupported mode) = Err (UnsupportedAnchored mode)

-- what a search over two automata answers
abbrev pub joined : Pair → Search → Result (Option Found) MatchErrorKind
joined p q = answer_by_end (reader p.forward) (reader p.reverse) q (half_search (reader p.forward) q)
