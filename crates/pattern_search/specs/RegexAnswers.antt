-- What a regex that is built of the trees of patterns answers, compared with the toolchain's matcher.
use Rattle.std.specs.Prelude.{◌≡◌, ℕ, ◌+◌, ◌-◌, ◌≤◌, Bool, List, map, length, All, Option, Some, None, Ok, option_map, is_some}
use Rattle.regex_hir.specs.Re.{Re}
use Rattle.regex_hir.specs.Meaning.{alt_all}
use Rattle.regex_hir.specs.Find.{matches_from}
use Rattle.hir_core.specs.Tree.{Tree}
use Rattle.hir_core.specs.Facts.{LoopsRead}
use Rattle.search_types.specs.Found.{Found}
use Rattle.regex_pair.specs.declared.find_matches.FindMatches.{FindMatches}
use Rattle.regex_pair.specs.FindSteps.{FindsNext, finds_from, searches_by}
use Rattle.regex_pair.specs.Matching.{AnswersMatch}
use Rattle.regex_pair.specs.PairAnswers.{AnswersPair}
use Rattle.regex_pair.specs.Pairs.{Pair, PairCache}
use Rattle.regex_pair.specs.Taken.{AreTaken}
use Rattle.hir_regex.specs.declared.settings.Settings.{Settings}
use Rattle.hir_regex.specs.Regexes.{IsSearchOf}
use Rattle.pattern_search.specs.Searches.{whole_search, found_from, all_found, span_of_match, span_of_found, IsOfFirstPattern}

-- What a regex answers for searches of whole haystacks, whatever its caches hold. In any case, an answer has the start that the
-- matcher finds, and is of the first pattern that matches there. More holds if the body of every unbounded repetition consumes at
-- least one byte. Then an answer has the span that the matcher finds, and a test for a match is true exactly if the matcher finds
-- one. An iterator that came to its end has then returned all matches, from an offset on or from the start.
pub record AnswersAsRead (res : List Re) (xs : List Tree) (s : Settings) (p : Pair) : Type 0 where
  pub found : All LoopsRead xs → (h : List ℕ) (at : ℕ) → IsSearchOf xs s.utf8 (whole_search h at) → (c : PairCache) (o : Option Found) →
      AnswersPair p c (whole_search h at) (Ok o) →
      option_map span_of_match (found_from s.utf8 (alt_all res) h at) ≡ option_map span_of_found o
  pub reported : All LoopsRead xs → (h : List ℕ) (at : ℕ) → IsSearchOf xs s.utf8 (whole_search h at) → (c : PairCache) (b : Bool) →
      AnswersMatch p c (whole_search h at) (Ok b) → b ≡ is_some (found_from s.utf8 (alt_all res) h at)
  pub listed : All LoopsRead xs → (h : List ℕ) (at n : ℕ) → IsSearchOf xs s.utf8 (whole_search h at) → at ≤ length h + 1 →
      length h + 1 - at ≤ n →
      (fs : List Found) (old new : FindMatches) → searches_by old ≡ p → AreTaken p (whole_search h at) fs (finds_from old) →
      FindsNext old None new →
      map span_of_match (matches_from (found_from s.utf8 (alt_all res) h) n (found_from s.utf8 (alt_all res) h at)) ≡ map span_of_found fs
  pub all : All LoopsRead xs → (h : List ℕ) → IsSearchOf xs s.utf8 (whole_search h 0) → (fs : List Found) (old new : FindMatches) →
      searches_by old ≡ p →
      AreTaken p (whole_search h 0) fs (finds_from old) → FindsNext old None new →
      map span_of_match (all_found s.utf8 (alt_all res) h) ≡ map span_of_found fs
  pub starts : (h : List ℕ) (at : ℕ) → IsSearchOf xs s.utf8 (whole_search h at) → (c : PairCache) (o : Option Found) →
      AnswersPair p c (whole_search h at) (Ok o) →
      option_map (λ m. m.start) (found_from s.utf8 (alt_all res) h at) ≡ option_map (λ f. f.start) o
  pub pattern : (h : List ℕ) (at : ℕ) → IsSearchOf xs s.utf8 (whole_search h at) → (c : PairCache) (f : Found) →
      AnswersPair p c (whole_search h at) (Ok (Some f)) → IsOfFirstPattern res h f
