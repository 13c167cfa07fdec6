use Rattle.std.proofs.Common.{ℕ, Option, Ok, map, subst, sym}
use Rattle.ucd_perl.specs.Perl.{is_word_char}
use Rattle.line_trees.specs.WordlessTrees.{wordless_tree}
use Rattle.search_types.specs.Inputs.{Search}
use Rattle.hir_regex.specs.declared.settings.Settings.{Settings}
use Rattle.growing_regex.specs.Growing.{AnswersBy, sized_settings}
use Rattle.pattern_text.specs.SameEnds.{pattern_looks}
use Rattle.pattern_text.specs.Words.{word_set}
use Rattle.pattern_search.specs.Searches.{whole_search}
use Rattle.meta_regex.specs.Wordless.{MayBeginAt}
use Rattle.meta_regex.proofs.WordlessLemmas.{any_search, wordless_begins}
use Rattle.meta_regex.proofs.wordless.least_start.Goals as goal

pub returns-clause-begins : goal.returns-clause-begins
returns-clause-begins c config texts it =
    let h = c.args.haystack.now in
    let by : AnswersBy c.args.automata.now (whole_search h c.args.from) (Ok c.in_ok-found.found) =
    subst (λ (q : Search). AnswersBy c.args.automata.now q (Ok c.in_ok-found.found)) c.search_from.ensures c.in_ok-found.ensures.answer in
    let s : Settings = sized_settings by.grown.capacity it.settings in
    subst (λ (o : Option ℕ). MayBeginAt config texts h c.args.from o) (sym c.start_of.ensures)
    (wordless_begins config texts it.trees it.mean h c.see_bytes.ensures
    (λ x i j m. c.a_wordless_tree_matches_as_much.ensures.spans (pattern_looks h) h x i j m)
    s it.any_bytes it.lines c.args.from c.in_ok-found.found
    (c.searches_answer_leftmost_whatever_the_loops.ensures (map wordless_tree it.trees) s by.pair
    (by.grown.built (map wordless_tree it.trees) it.settings it.built) it.kind_is
    (whole_search h c.args.from) (any_search (map wordless_tree it.trees) s it.any_bytes h c.see_bytes.ensures c.args.from)
    by.cache c.in_ok-found.found by.answer is_word_char word_set))
