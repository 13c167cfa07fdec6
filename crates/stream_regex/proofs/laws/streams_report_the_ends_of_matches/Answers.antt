use Rattle.std.proofs.Common.{◌≡◌, None, false, refl, subst, sym}
use Rattle.lazy_dfa.specs.Dfas.{Dfa, reader}
use Rattle.lazy_dfa.specs.Overlapping.{Rest, whole_rest}
use Rattle.look_core.specs.Terminators.{one_of}
use Rattle.hir_regex.specs.OverlappingTrees.{IsOverlappingDfa}
use Rattle.nfa_core.specs.Places.{same_pair}
use Rattle.nfa_core.specs.Walks.{HasNoneTwice}
use Rattle.lazy_dfa.specs.OverlappingLaws.{IsInReadingOrder}
use Rattle.pattern_search.specs.Searches.{whole_search}
use Rattle.pattern_text.specs.Words.{word_set}
use Rattle.ucd_perl.specs.Perl.{is_word_char}
use Rattle.stream_regex.specs.StreamRegexes.{settings_of}
use Rattle.stream_regex.proofs.MeaningLemmas.{exactly, is_search, quiet_near}
use Rattle.stream_regex.proofs.laws.streams_report_the_ends_of_matches.Goals as goal

pub returns-clause-exactly : goal.returns-clause-exactly
returns-clause-exactly c o texts d it h bytes valid res read end pattern =
    exactly o texts d it h bytes res read end pattern (whole_rest (reader d) (whole_search h 0)) _
    (c.streams_are_overlapping_searches.ensures d (whole_search h 0) it.reads refl refl refl)
    (c.walks_tell_what_trees_mean.ensures.words it.trees false o.syntax.utf8 (one_of 10) d
    (subst (λ (e : Dfa). IsOverlappingDfa it.trees false o.syntax.utf8 (one_of 10) e) (sym it.forward)
    (c.built_automata_are_walked.ensures.is_forward it.trees (settings_of o) it.pair it.built refl))
    (whole_search h 0) (is_search o texts d it h bytes valid)
    (c.walks_are_refused_by_quit_bytes_and_modes_alone.ensures.none (reader d) (whole_search h 0) refl (quiet_near o texts d it h))
    is_word_char word_set (end, pattern))

pub returns-clause-once : goal.returns-clause-once
returns-clause-once c o texts d it h bytes valid =
    subst (λ (r : Rest). HasNoneTwice same_pair r.ends)
    (c.streams_are_overlapping_searches.ensures d (whole_search h 0) it.reads refl refl refl)
    (c.walks_over_trees_tell_each_once.ensures.once it.trees false o.syntax.utf8 (one_of 10) d
    (subst (λ (e : Dfa). IsOverlappingDfa it.trees false o.syntax.utf8 (one_of 10) e) (sym it.forward)
    (c.built_automata_are_walked.ensures.is_forward it.trees (settings_of o) it.pair it.built refl))
    (whole_search h 0) (is_search o texts d it h bytes valid)
    (c.walks_are_refused_by_quit_bytes_and_modes_alone.ensures.none (reader d) (whole_search h 0) refl (quiet_near o texts d it h)))

pub returns-clause-ordered : goal.returns-clause-ordered
returns-clause-ordered c o texts d it h bytes valid =
    subst (λ (r : Rest). IsInReadingOrder false r.ends)
    (c.streams_are_overlapping_searches.ensures d (whole_search h 0) it.reads refl refl refl)
    (c.walks_over_trees_tell_each_once.ensures.ordered it.trees false o.syntax.utf8 (one_of 10) d
    (subst (λ (e : Dfa). IsOverlappingDfa it.trees false o.syntax.utf8 (one_of 10) e) (sym it.forward)
    (c.built_automata_are_walked.ensures.is_forward it.trees (settings_of o) it.pair it.built refl))
    (whole_search h 0) (is_search o texts d it h bytes valid)
    (c.walks_are_refused_by_quit_bytes_and_modes_alone.ensures.none (reader d) (whole_search h 0) refl (quiet_near o texts d it h)))

pub returns-clause-quiet : goal.returns-clause-quiet
returns-clause-quiet c o texts d it h =
    subst (λ (r : Rest). r.rejection ≡ None)
    (c.streams_are_overlapping_searches.ensures d (whole_search h 0) it.reads refl refl refl)
    (c.walks_are_refused_by_quit_bytes_and_modes_alone.ensures.none (reader d) (whole_search h 0) refl (quiet_near o texts d it h))
