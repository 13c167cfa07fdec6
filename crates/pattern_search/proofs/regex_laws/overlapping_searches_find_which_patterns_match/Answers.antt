use Rattle.std.proofs.Common.{◌≡◌, ◌↔◌, ◌⊎◌, ◌<◌, ℕ, true, false, length, replicate, subst}
use Rattle.ucd_perl.specs.Perl.{is_word_char}
use Rattle.look_core.specs.Terminators.{Terminator}
use Rattle.search_core.specs.ByteSets.{has}
use Rattle.pattern_text.specs.Words.{word_set}
use Rattle.hir_regex.specs.OverlappingTrees.{IsReportedWith}
use Rattle.pattern_search.specs.Searches.{whole_search}
use Rattle.pattern_search.proofs.WhichLemmas.{room_of, which_is}
use Rattle.pattern_search.proofs.regex_laws.overlapping_searches_find_which_patterns_match.Goals as goal

pub returns : goal.returns
returns c = λ res xs same s p built all feeds h search v set ok.
    which_is s.utf8 res xs same h search set
    (room_of p.forward v (whole_search h 0) (replicate (length xs) false) set ok)
    (λ k. subst (λ (t : Terminator). (has set k ≡ true) ↔ ((has (replicate (length xs) false) k ≡ true) ⊎
    ((k < length (replicate (length xs) false)) × ((j : ℕ) × IsReportedWith is_word_char xs false s.utf8 t (whole_search h 0) (
      j,
      k,
    ))))) feeds
    (c.sets_get_the_patterns_of_spans.ensures.words xs s.utf8 s.line_terminator p.forward
    (c.built_automata_are_walked.ensures.is_forward xs s p built all)
    (whole_search h 0) search v (replicate (length xs) false) set ok is_word_char word_set k))
