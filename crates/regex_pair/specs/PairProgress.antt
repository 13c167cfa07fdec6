-- How far searches over two automata came, as their caches record it, whatever they answer.
use Rattle.std.specs.Prelude.{◌≡◌, ℕ, Bool, true, false, Option, Some, None, Result, Ok, Err}
use Rattle.search_types.specs.declared.match_error.MatchErrorKind.{MatchErrorKind}
use Rattle.search_types.specs.declared.match_error.MatchErrorKind.TheVariants.{NotAPair}
use Rattle.search_types.specs.Found.{Found, HalfFound}
use Rattle.search_types.specs.Inputs.{Search}
use Rattle.lazy_dfa.specs.Dfas.{reader}
use Rattle.lazy_dfa.specs.SearchPromises.{ReportsHalf}
use Rattle.lazy_dfa.specs.SearchAnswers.{Answers}
use Rattle.regex_pair.specs.Joined.{back_from, joined}
use Rattle.regex_pair.specs.Matching.{match_search}
use Rattle.regex_pair.specs.PairAnswers.{GoesBack}
use Rattle.regex_pair.specs.Pairs.{Pair, PairCache}

-- ---- a search

-- the match with an end, by the answer of a half search for its start
abbrev pub with_half : HalfFound → Result (Option HalfFound) MatchErrorKind → Result (Option Found) MatchErrorKind
with_half e (Ok (Some s)) = Ok (Some (record { pattern = e.pattern; start = s.offset; end = e.offset }))
with_half e (Ok None) = Err NotAPair
with_half e (Err x) = Err x

-- What a search over both records in the caches. If the search for an end fails, or its answer needs no search back, the other
-- cache stays as it is. Otherwise one search goes back from the end that was found, and the answer depends on what that one
-- answers.
pub data ReportsPair (p : Pair) (q : Search) (old new : PairCache) (result : Result (Option Found) MatchErrorKind) : Type 0 where
  tells_refusal : (e : MatchErrorKind) → result ≡ Err e → Answers p.forward new.forward q (Err e) →
      ReportsHalf p.forward q old.forward new.forward (Err e) → new.reverse ≡ old.reverse → ReportsPair p q old new result
  reports_end : (end : Option HalfFound) → result ≡ joined p q → Answers p.forward new.forward q (Ok end) →
      ((e : ℕ × ℕ) → GoesBack p q e → ⊥) → ReportsHalf p.forward q old.forward new.forward (Ok end) → new.reverse ≡ old.reverse →
      ReportsPair p q old new result
  tells_start : (end : HalfFound) (start : Result (Option HalfFound) MatchErrorKind) → result ≡ with_half end start →
      GoesBack p q (end.offset, end.pattern) → Answers p.reverse new.reverse (back_from q end.offset) start →
      ReportsHalf p.forward q old.forward new.forward (Ok (Some end)) →
      ReportsHalf p.reverse (back_from q end.offset) old.reverse new.reverse start → ReportsPair p q old new result

-- ---- whether there is a match

-- whether code that looks for an end finds one
abbrev pub is_some_half : Result (Option HalfFound) MatchErrorKind → Result Bool MatchErrorKind
is_some_half (Ok (Some e)) = Ok true
is_some_half (Ok None) = Ok false
is_some_half (Err x) = Err x

-- it records what its half search does, and nothing in the other cache
pub record ReportsMatch (p : Pair) (q : Search) (old new : PairCache) (result : Result Bool MatchErrorKind) : Type 0 where
  pub half : Result (Option HalfFound) MatchErrorKind
  pub answer : result ≡ is_some_half half
  pub asked : Answers p.forward new.forward (match_search (reader p.forward) q) half
  pub forward : ReportsHalf p.forward (match_search (reader p.forward) q) old.forward new.forward half
  pub reverse : new.reverse ≡ old.reverse
