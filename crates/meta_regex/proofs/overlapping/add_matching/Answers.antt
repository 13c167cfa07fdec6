use Rattle.std.proofs.Common.{Ok, map, subst}
use Rattle.ucd_perl.specs.Perl.{is_word_char}
use Rattle.line_trees.specs.WordlessTrees.{wordless_tree}
use Rattle.search_types.specs.Inputs.{Search}
use Rattle.search_types.specs.declared.match_kind.MatchKind.TheVariants.{All as AllMatches}
use Rattle.hir_regex.specs.declared.settings.Settings.{Settings}
use Rattle.growing_regex.specs.Growing.{AddsBy, sized_settings}
use Rattle.pattern_search.specs.Searches.{whole_search}
use Rattle.pattern_text.specs.SameEnds.{pattern_looks}
use Rattle.pattern_text.specs.Words.{word_set}
use Rattle.meta_regex.proofs.CacheLemmas.{built_grown}
use Rattle.meta_regex.proofs.FoundLemmas.{overlapping_progress}
use Rattle.meta_regex.proofs.WordlessLemmas.{any_search, may_reported}
use Rattle.meta_regex.proofs.overlapping.add_matching.Goals as goal

pub returns-clause-reported : goal.returns-clause-reported
returns-clause-reported c config texts it valid empty =
    let h = c.args.haystack.now in
    let new = c.try_which_overlapping_matches.new.set in
    let by : AddsBy c.args.automata.now (whole_search h 0) c.args.set.now new (Ok tt) =
    subst (λ (q : Search). AddsBy c.args.automata.now q c.args.set.now new (Ok tt)) c.search_from-input.ensures c.in-Ok.ensures.added in
    overlapping_progress config texts by.pair
    (λ xs mean s built all lines h search v set answer. c.overlapping_searches_find_which_texts_match.ensures config texts xs mean s by.pair
    built all lines h search v set answer)
    (built_grown config texts AllMatches c.args.automata.now by.pair it by.grown) h c.see_bytes.ensures valid by.cache c.args.set.now new
    empty by.answer

pub returns-clause-may : goal.returns-clause-may
returns-clause-may c config texts it empty long =
    let h = c.args.haystack.now in
    let new = c.try_which_overlapping_matches.new.set in
    let by : AddsBy c.args.automata.now (whole_search h 0) c.args.set.now new (Ok tt) =
    subst (λ (q : Search). AddsBy c.args.automata.now q c.args.set.now new (Ok tt)) c.search_from-input.ensures c.in-Ok.ensures.added in
    let s : Settings = sized_settings by.grown.capacity it.settings in
    may_reported config texts it.trees it.mean h c.see_bytes.ensures
    (λ x i j m. c.a_wordless_tree_matches_as_much.ensures.spans (pattern_looks h) h x i j m)
    s it.any_bytes it.lines c.args.set.now new empty long
    (λ p. c.sets_get_the_patterns_of_spans.ensures.words (map wordless_tree it.trees) s.utf8 s.line_terminator by.pair.forward
    (c.built_automata_are_walked.ensures.is_forward (map wordless_tree it.trees) s by.pair
    (by.grown.built (map wordless_tree it.trees) it.settings it.built) it.kind_is)
    (whole_search h 0) (any_search (map wordless_tree it.trees) s it.any_bytes h c.see_bytes.ensures 0)
    by.cache c.args.set.now new by.answer is_word_char word_set p)
