-- From what trees define of a search with settings to what patterns say of it.
use Rattle.std.proofs.Common.{◌≡◌, ℕ, ◌+◌, ◌-◌, ◌≤◌, Bool, List, map, length, All, Option, Some, None, option_map, is_some, refl, sym, ap}
use Rattle.std.proofs.Common.{◌∙◌, subst}
use Rattle.ucd_perl.specs.Perl.{is_word_char}
use Rattle.regex_hir.specs.Re.{Re}
use Rattle.regex_hir.specs.Meaning.{alt_all}
use Rattle.regex_hir.specs.Find.{Match, matches_from}
use Rattle.look_core.specs.Looks.{holds}
use Rattle.look_core.specs.Terminators.{Terminator, one_of}
use Rattle.hir_core.specs.Tree.{Tree}
use Rattle.hir_core.specs.Facts.{LoopsRead}
use Rattle.search_types.specs.Found.{Found}
use Rattle.hir_regex.specs.declared.settings.Settings.{Settings}
use Rattle.hir_regex.specs.Choices.{answer_from, answers_of}
use Rattle.hir_regex.specs.Headline.{answer_to, answers_to, query_by}
use Rattle.hir_regex.specs.LooseAnswers.{IsLooseAnswer}
use Rattle.hir_regex.specs.Regexes.{IsSearchOf, query_of}
use Rattle.pattern_text.specs.SameEnds.{AreSameEnds, AreSameSpans}
use Rattle.pattern_search.specs.Searches.{whole_search, whole_query, found_from, all_found, span_of_match, span_of_found, IsOfFirstPattern}
use Rattle.pattern_search.proofs.AllMatchLemmas.{lists_from, lists_as_read}
use Rattle.pattern_search.proofs.FindLemmas.{finds_as_read}
use Rattle.pattern_search.proofs.StartLemmas.{starts_as_read}

same_some : (m : Option Match) (o : Option Found) → option_map span_of_match m ≡ option_map span_of_found o → is_some m ≡ is_some o
same_some None None same = refl
same_some None (Some f) same = cc
same_some (Some m) None same = cc
same_some (Some m) (Some f) same = refl

module _ (res : List Re) (xs : List Tree) (ends : AreSameEnds res xs) (spans : AreSameSpans res xs) (s : Settings)
    (feeds : s.line_terminator ≡ one_of 10)
    (h : List ℕ) (at : ℕ) (search : IsSearchOf xs s.utf8 (whole_search h at)) where
  same_answer : answer_to is_word_char xs s (whole_search h at) ≡ answer_from (whole_query s.utf8 xs h) at
  same_answer = ap (λ (t : Terminator). answer_from (query_of xs s.utf8 (holds is_word_char t h) (whole_search h at)) at) feeds

  same_answers : answers_to is_word_char xs s (whole_search h at) ≡ answers_of (whole_query s.utf8 xs h) at
  same_answers = ap (λ (t : Terminator). answers_of (query_of xs s.utf8 (holds is_word_char t h) (whole_search h at)) at) feeds

  pub found_by_settings : All LoopsRead xs → (o : Option Found) → o ≡ answer_to is_word_char xs s (whole_search h at) →
      option_map span_of_match (found_from s.utf8 (alt_all res) h at) ≡ option_map span_of_found o
  found_by_settings loops o is =
      finds_as_read res xs ends loops s.utf8 h at search ∙ ap (option_map span_of_found) (sym (is ∙ same_answer))

  pub told_by_settings : All LoopsRead xs → (b : Bool) → b ≡ is_some (answer_to is_word_char xs s (whole_search h at)) →
      b ≡ is_some (found_from s.utf8 (alt_all res) h at)
  told_by_settings loops b is =
      is ∙ ap is_some same_answer
      ∙ sym (same_some (found_from s.utf8 (alt_all res) h at) (answer_from (whole_query s.utf8 xs h) at)
      (finds_as_read res xs ends loops s.utf8 h at search))

  pub listed_by_settings : All LoopsRead xs → (n : ℕ) → length h + 1 - at ≤ n → (fs : List Found) →
      answers_to is_word_char xs s (whole_search h at) ≡ fs →
      map span_of_match (matches_from (found_from s.utf8 (alt_all res) h) n (found_from s.utf8 (alt_all res) h at)) ≡ map span_of_found fs
  listed_by_settings loops n enough fs is =
      lists_from res xs ends loops s.utf8 h at n search enough ∙ ap (map span_of_found) (sym same_answers ∙ is)

  loose_by_settings : (o : Option Found) → IsLooseAnswer (query_by is_word_char xs s (whole_search h at)) at o →
      IsLooseAnswer (whole_query s.utf8 xs h) at o
  loose_by_settings o loose =
      subst (λ (t : Terminator). IsLooseAnswer (query_of xs s.utf8 (holds is_word_char t h) (whole_search h at)) at o) feeds loose

  pub starts_by_settings : (o : Option Found) → IsLooseAnswer (query_by is_word_char xs s (whole_search h at)) at o →
      option_map (λ m. m.start) (found_from s.utf8 (alt_all res) h at) ≡ option_map (λ f. f.start) o
  starts_by_settings o loose = (starts_as_read res xs spans s.utf8).loose h at search o (loose_by_settings o loose)

  pub pattern_by_settings : (f : Found) → IsLooseAnswer (query_by is_word_char xs s (whole_search h at)) at (Some f) →
      IsOfFirstPattern res h f
  pattern_by_settings f loose = (starts_as_read res xs spans s.utf8).pattern h at search f (loose_by_settings (Some f) loose)

pub all_by_settings : (res : List Re) (xs : List Tree) → AreSameEnds res xs → AreSameSpans res xs → (s : Settings) →
    s.line_terminator ≡ one_of 10 →
    (h : List ℕ) → IsSearchOf xs s.utf8 (whole_search h 0) → All LoopsRead xs → (fs : List Found) →
    answers_to is_word_char xs s (whole_search h 0) ≡ fs →
    map span_of_match (all_found s.utf8 (alt_all res) h) ≡ map span_of_found fs
all_by_settings res xs ends spans s feeds h search loops fs is =
    (lists_as_read res xs ends loops s.utf8).whole h search
    ∙ ap (map span_of_found) (sym (same_answers res xs ends spans s feeds h 0 search) ∙ is)
