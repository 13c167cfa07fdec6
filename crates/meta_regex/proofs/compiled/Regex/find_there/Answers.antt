use Rattle.std.proofs.Common.{Ok, subst, sym}
use Rattle.ucd_perl.specs.Perl.{is_word_char}
use Rattle.search_types.specs.declared.match_kind.MatchKind.TheVariants.{LeftmostFirst}
use Rattle.search_types.specs.Inputs.{Search}
use Rattle.growing_regex.specs.Growing.{AnswersBy}
use Rattle.pattern_text.specs.Words.{word_set}
use Rattle.meta_regex.specs.declared.anchored.Tried.{Tried}
use Rattle.meta_regex.specs.Regexes.{AreReportedOf, config_by}
use Rattle.meta_regex.specs.Starts.{HasTriedSpan, IsTried, anchored_search}
use Rattle.meta_regex.proofs.AnchoredLemmas.{anchored, has_tried_span, is_tried}
use Rattle.meta_regex.proofs.CacheLemmas.{automata_kept, reported_grown, reported_of}
use Rattle.meta_regex.proofs.compiled.Regex.find_there.Goals as goal

pub returns-clause-tries : goal.returns-clause-tries
returns-clause-tries c =
    let v = c.args.self.now in
    let h = c.args.haystack.now in
    let by : AnswersBy c.args.cache.now.automata (anchored_search h c.args.at) (Ok c.in-Ok.found) =
    subst (λ (q : Search). AnswersBy c.args.cache.now.automata q (Ok c.in-Ok.found)) c.search_there.ensures c.in-Ok.ensures.answer in
    let own : AreReportedOf (config_by v) v.texts LeftmostFirst v.loops by.pair =
    reported_grown (config_by v) v.texts LeftmostFirst v.loops c.args.cache.now.automata by.pair (reported_of v c.args.cache.now.automata c.requires.own.automata) by.grown in
    let it = own.0 in
    let search = anchored (config_by v) v.texts by.pair it h c.see_bytes.ensures c.requires.valid c.args.at c.requires.within in
    record {
      tried = subst (λ (t : Tried). IsTried (config_by v) v.texts h c.args.at t) (sym c.result_of.ensures)
          (is_tried (config_by v) v.texts by.pair it h c.see_bytes.ensures c.requires.valid c.args.at c.requires.within c.in-Ok.found
          (c.searches_answer_leftmost_whatever_the_loops.ensures it.trees it.settings by.pair it.built it.kind_is
          (anchored_search h c.args.at) search by.cache c.in-Ok.found by.answer is_word_char word_set));
      preferred = λ loops. subst (λ (t : Tried). HasTriedSpan (config_by v) v.texts h c.args.at t) (sym c.result_of.ensures)
          (has_tried_span (config_by v) v.texts by.pair it h c.see_bytes.ensures c.requires.valid c.args.at c.requires.within c.in-Ok.found
          (own.1.0 loops)
          (c.searches_answer_what_trees_define.ensures it.trees it.settings by.pair it.built it.kind_is (anchored_search h c.args.at)
          search (own.1.0 loops) by.cache c.in-Ok.found by.answer is_word_char word_set));
    }

pub returns-clause-own : goal.returns-clause-own
returns-clause-own c = automata_kept c.args.self.now c.args.cache.now _ c.find.ensures.same c.requires.own

pub returns-in-Err-clause-own : goal.returns-in-Err-clause-own
returns-in-Err-clause-own c = automata_kept c.args.self.now c.args.cache.now _ c.find.ensures.same c.requires.own
