-- What the trees of several patterns find in a whole haystack, compared with the toolchain's matcher: `find` in any bytes, and `find_str`
-- in UTF-8, where no match starts inside a character. The matcher takes one pattern. Several patterns are their alternation, the first
-- preferred.
use Rattle.std.specs.Prelude.{◌≡◌, ◌↔◌, ℕ, ◌+◌, ◌-◌, ◌<◌, ◌≤◌, Bool, true, false, List, map, length, slice_get, All, Option, Some}
use Rattle.std.specs.Prelude.{option_map, is_some}
use Rattle.regex_hir.specs.Re.{Re}
use Rattle.regex_hir.specs.Matches.{Matches}
use Rattle.regex_hir.specs.Meaning.{alt_all}
use Rattle.regex_hir.specs.Find.{Match, find, find_str, matches_from, find_all, find_all_str}
use Rattle.hir_core.specs.Tree.{Tree}
use Rattle.search_types.specs.declared.anchored.Anchored.TheVariants.{No}
use Rattle.search_types.specs.Found.{Found}
use Rattle.search_types.specs.Inputs.{Search}
use Rattle.hir_regex.specs.Choices.{Query, answer_from, answers_of}
use Rattle.hir_regex.specs.LooseAnswers.{MeansSpan, IsLooseAnswer}
use Rattle.hir_regex.specs.Regexes.{IsSearchOf, query_of}
use Rattle.pattern_text.specs.SameEnds.{pattern_looks}

-- a search of the whole haystack from the offset s on, which may start at any offset
abbrev pub whole_search : List ℕ → ℕ → Search
whole_search h s = record { haystack = h; start = s; end = length h; anchored = No; earliest = false }

-- what it searches for: these trees, with Unicode's words and lines that end at a line feed
abbrev pub whole_query : Bool → List Tree → List ℕ → Query
whole_query utf8 xs h = query_of xs utf8 (pattern_looks h) (whole_search h 0)

-- what the matcher finds from the offset s on, in bytes or in UTF-8
abbrev pub found_from : Bool → Re → List ℕ → ℕ → Option Match
found_from false re h s = find re h s
found_from true re h s = find_str re h s

-- all that it finds from the start on
abbrev pub all_found : Bool → Re → List ℕ → List Match
all_found false re h = find_all re h
all_found true re h = find_all_str re h

-- for each pattern, whether the matcher finds a match of it anywhere
abbrev pub which_match : Bool → List Re → List ℕ → List Bool
which_match utf8 res h = map (λ re. is_some (found_from utf8 re h 0)) res

abbrev pub span_of_match : Match → ℕ × ℕ
span_of_match m = (m.start, m.trace.end)

abbrev pub span_of_found : Found → ℕ × ℕ
span_of_found f = (f.start, f.end)

-- ---- also with empty loops

-- the pattern of this number matches the span from i to j
pub record IsMatchOf (res : List Re) (h : List ℕ) (p i j : ℕ) : Type 0 where
  pub pattern : Re
  pub listed : slice_get res p ≡ Some pattern
  pub matches : Matches h pattern i j

-- from each offset of any bytes, each pattern matches the spans that the tree at its index matches, and no others
abbrev pub SpansAsRead : List Re → List Tree → Type 0
SpansAsRead res xs =
    (h : List ℕ) → All (λ b. b < 256) h → (utf8 : Bool) (p i j : ℕ) → i ≤ length h →
    IsMatchOf res h p i j ↔ MeansSpan (whole_query utf8 xs h) p i j

-- the found span is one of its pattern, and no pattern before that one matches from its start
pub record IsOfFirstPattern (res : List Re) (h : List ℕ) (f : Found) : Type 0 where
  pub matches : IsMatchOf res h f.pattern f.start f.end
  pub none_before : (p j : ℕ) → p < f.pattern → IsMatchOf res h p f.start j → ⊥

-- If the matcher finds no match, there is no answer. If it finds one, the answer has its start, and is of the first pattern that matches
-- there. This holds for each answer that the trees define apart from preferred ends, and for the preferred one.
pub record StartsAsRead (utf8 : Bool) (res : List Re) (xs : List Tree) : Type 0 where
  pub loose : (h : List ℕ) (s : ℕ) → IsSearchOf xs utf8 (whole_search h s) → (o : Option Found) →
      IsLooseAnswer (whole_query utf8 xs h) s o →
      option_map (λ m. m.start) (found_from utf8 (alt_all res) h s) ≡ option_map (λ f. f.start) o
  pub preferred : (h : List ℕ) (s : ℕ) → IsSearchOf xs utf8 (whole_search h s) →
      option_map (λ m. m.start) (found_from utf8 (alt_all res) h s) ≡ option_map (λ f. f.start) (answer_from (whole_query utf8 xs h) s)
  pub pattern : (h : List ℕ) (s : ℕ) → IsSearchOf xs utf8 (whole_search h s) → (f : Found) →
      IsLooseAnswer (whole_query utf8 xs h) s (Some f) →
      IsOfFirstPattern res h f

-- ---- if the body of every unbounded repetition consumes at least one byte

-- the answer from each offset has the span that the matcher finds, if it finds one
abbrev pub FindsAsRead : Bool → List Re → List Tree → Type 0
FindsAsRead utf8 res xs = (h : List ℕ) (s : ℕ) → IsSearchOf xs utf8 (whole_search h s) →
    option_map span_of_match (found_from utf8 (alt_all res) h s) ≡ option_map span_of_found (answer_from (whole_query utf8 xs h) s)

-- All answers from each offset have, in their order, the spans of all matches that the matcher's iteration returns from there, if its
-- bound on their number is at least the number of offsets. All answers from the start on have the spans of its list of all matches.
pub record ListsAsRead (utf8 : Bool) (res : List Re) (xs : List Tree) : Type 0 where
  pub from : (h : List ℕ) (s n : ℕ) → IsSearchOf xs utf8 (whole_search h s) → length h + 1 - s ≤ n →
      map span_of_match (matches_from (found_from utf8 (alt_all res) h) n (found_from utf8 (alt_all res) h s))
      ≡ map span_of_found (answers_of (whole_query utf8 xs h) s)
  pub whole : (h : List ℕ) → IsSearchOf xs utf8 (whole_search h 0) →
      map span_of_match (all_found utf8 (alt_all res) h) ≡ map span_of_found (answers_of (whole_query utf8 xs h) 0)
