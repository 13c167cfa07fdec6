-- What streams over patterns report is what the patterns match.
use Rattle.std.proofs.Common.{◌≡◌, ◌↔◌, ◌<◌, ℕ, Bool, true, false, List, All, Option, Some, None, length, arith, lt-ltb, refl, subst, sym}
use Rattle.std.proofs.lemmas.Option.{slice_get_within}
use Rattle.ucd_perl.specs.Perl.{is_word_char}
use Rattle.regex_hir.specs.Re.{Re}
use Rattle.search_core.specs.ByteSets.{has}
use Rattle.search_core.specs.Text.{byte_at}
use Rattle.search_core.specs.Utf8.{IsValidText}
use Rattle.look_core.specs.Terminators.{one_of}
use Rattle.hir_core.specs.Tree.{Tree}
use Rattle.hir_core.proofs.ForCallers.{span_within}
use Rattle.search_types.specs.declared.anchored.Anchored.TheVariants.{No}
use Rattle.search_types.proofs.ForCallers.{starts_at, may_start_at}
use Rattle.nfa_core.specs.Places.{same_pair}
use Rattle.nfa_core.specs.Walks.{Has}
use Rattle.lazy_dfa.specs.Dfas.{Dfa, reader}
use Rattle.lazy_dfa.specs.HalfSearchLaws.{HasNoQuitNear}
use Rattle.lazy_dfa.specs.Overlapping.{Rest}
use Rattle.lazy_dfa.specs.Readers.{is_quit}
use Rattle.hir_regex.specs.LooseAnswers.{MeansSpan}
use Rattle.hir_regex.specs.OverlappingTrees.{IsReportedEnd, IsReportedWith}
use Rattle.hir_regex.specs.Regexes.{IsSearchOf}
use Rattle.pattern_text.specs.SameEnds.{pattern_looks}
use Rattle.pattern_search.specs.Searches.{SpansAsRead, whole_query, whole_search}
use Rattle.pattern_search.specs.Texts.{AreReadAs}
use Rattle.pattern_search.proofs.ForCallers.{finds_what_is_written, same_patterns}
use Rattle.stream_regex.specs.Meaning.{IsEndOf}
use Rattle.stream_regex.specs.StreamRegexes.{IsStreamRegexOf}
use Rattle.stream_regex.specs.declared.options.Options.{Options}

quiet_unit : (quits : List Bool) → ((b : ℕ) → has quits b ≡ false) → (u : Option ℕ) → is_quit quits u ≡ false
quiet_unit quits quiet None = refl
quiet_unit quits quiet (Some b) = quiet b

module _ (o : Options) (texts : List (List ℕ)) (d : Dfa) (it : IsStreamRegexOf o texts d) (h : List ℕ) where
  pub quiet_near : HasNoQuitNear (reader d) h 0 (length h)
  quiet_near x from to = quiet_unit d.quits it.quiet (byte_at h x)

  pub is_search : All (λ b. b < 256) h → (o.syntax.utf8 ≡ true → IsValidText h) → IsSearchOf it.trees o.syntax.utf8 (whole_search h 0)
  is_search bytes valid = record {
    within = omega arith;
    whole = refl;
    bytes = bytes;
    valid = valid;
    utf8_trees = it.utf8_trees;
  }

-- what has to be reported, in the words of the matcher
module _ (utf8 : Bool) (res : List Re) (xs : List Tree) (spans : SpansAsRead res xs) (h : List ℕ) (bytes : All (λ b. b < 256) h)
    (end pattern : ℕ) where
  reported_matches : IsReportedEnd (whole_query utf8 xs h) 0 end pattern → IsEndOf utf8 res h end pattern
  reported_matches t =
      let within = (starts_at No 0 (length h) t.start t.starts).to_last in
      record {
        start = t.start;
        within = within;
        matches = (spans h bytes utf8 pattern t.start end within).1 t.findable.span;
        counted = t.counted;
      }

  matches_reported : IsEndOf utf8 res h end pattern → IsReportedEnd (whole_query utf8 xs h) 0 end pattern
  matches_reported e =
      let span : MeansSpan (whole_query utf8 xs h) pattern e.start end = (spans h bytes utf8 pattern e.start end e.within).0 e.matches in
      record {
        start = e.start;
        starts = may_start_at No 0 (length h) e.start (omega arith) (omega arith) e.within;
        findable = record {
          may = lt-ltb pattern (length xs) (slice_get_within xs pattern span.tree span.listed);
          span = span;
          within = span_within (pattern_looks h) h span.tree e.start end e.within span.means;
        };
        counted = e.counted;
      }

  pub both : IsReportedEnd (whole_query utf8 xs h) 0 end pattern ↔ IsEndOf utf8 res h end pattern
  both = (reported_matches, matches_reported)

pub exactly : (o : Options) (texts : List (List ℕ)) (d : Dfa) (it : IsStreamRegexOf o texts d) (h : List ℕ) → All (λ b. b < 256) h →
    (res : List Re) → AreReadAs o.syntax texts res → (end pattern : ℕ) (whole rest : Rest) → whole ≡ rest →
    (Has same_pair (end, pattern) whole.ends ↔ IsReportedWith is_word_char it.trees false o.syntax.utf8 (one_of 10) (whole_search h 0) (end, pattern)) →
    Has same_pair (end, pattern) rest.ends ↔ IsEndOf o.syntax.utf8 res h end pattern
exactly o texts d it h bytes res read end pattern whole rest same reports =
    let found = finds_what_is_written o.syntax texts it.trees it.mean in
    let spans = subst (λ (rs : List Re). SpansAsRead rs it.trees) (same_patterns o.syntax texts found.patterns res found.are_read read)
    found.spans in
    let ways = both o.syntax.utf8 res it.trees spans h bytes end pattern in (
      λ has. ways.0 (reports.0 (subst (λ (r : Rest). Has same_pair (end, pattern) r.ends) (sym same) has)),
      λ e. subst (λ (r : Rest). Has same_pair (end, pattern) r.ends) same (reports.1 (ways.1 e)),
    )
