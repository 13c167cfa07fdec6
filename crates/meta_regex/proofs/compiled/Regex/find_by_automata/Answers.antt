use Rattle.std.proofs.Common.{subst, sym, Ok, Option}
use Rattle.search_types.specs.declared.match_kind.MatchKind.TheVariants.{LeftmostFirst}
use Rattle.search_types.specs.Inputs.{Search}
use Rattle.growing_regex.specs.Growing.{AnswersBy}
use Rattle.pattern_search.specs.Searches.{whole_search}
use Rattle.meta_regex.specs.declared.found_match.FoundMatch.{FoundMatch}
use Rattle.meta_regex.specs.Regexes.{AreReportedOf, HasFoundStart, HasFoundSpan, config_by}
use Rattle.meta_regex.proofs.CacheLemmas.{automata_kept, reported_grown, reported_of}
use Rattle.meta_regex.proofs.FoundLemmas.{row_found, row_preferred}
use Rattle.meta_regex.proofs.compiled.Regex.find_by_automata.Goals as goal

pub returns-clause-found : goal.returns-clause-found
returns-clause-found c =
    let v = c.args.self.now in
    let by : AnswersBy c.args.cache.now.automata (whole_search c.args.haystack.now c.args.from) (Ok c.in_ok-found.found) =
    subst (λ (q : Search). AnswersBy c.args.cache.now.automata q (Ok c.in_ok-found.found)) c.search_from.ensures c.in_ok-found.ensures.answer in
    let own : AreReportedOf (config_by v) v.texts LeftmostFirst v.loops by.pair =
    reported_grown (config_by v) v.texts LeftmostFirst v.loops c.args.cache.now.automata by.pair (reported_of v c.args.cache.now.automata c.requires.own.automata) by.grown in
    subst (λ (o : Option FoundMatch). HasFoundStart (config_by v) v.texts c.args.haystack.now c.args.from o) (sym c.row.ensures)
    (row_found (config_by v) v.texts by.pair
    (λ xs mean s built finds lines. c.regexes_answer_what_is_written.ensures (config_by v) v.texts xs mean s by.pair built finds lines)
    own.0
    c.args.haystack.now c.see_bytes.ensures c.requires.valid c.args.from by.cache c.in_ok-found.found by.answer)

pub returns-clause-preferred : goal.returns-clause-preferred
returns-clause-preferred c loops =
    let v = c.args.self.now in
    let by : AnswersBy c.args.cache.now.automata (whole_search c.args.haystack.now c.args.from) (Ok c.in_ok-found.found) =
    subst (λ (q : Search). AnswersBy c.args.cache.now.automata q (Ok c.in_ok-found.found)) c.search_from.ensures c.in_ok-found.ensures.answer in
    let own : AreReportedOf (config_by v) v.texts LeftmostFirst v.loops by.pair =
    reported_grown (config_by v) v.texts LeftmostFirst v.loops c.args.cache.now.automata by.pair (reported_of v c.args.cache.now.automata c.requires.own.automata) by.grown in
    subst (λ (o : Option FoundMatch). HasFoundSpan (config_by v) v.texts c.args.haystack.now c.args.from o) (sym c.row.ensures)
    (row_preferred (config_by v) v.texts by.pair
    (λ xs mean s built finds lines. c.regexes_answer_what_is_written.ensures (config_by v) v.texts xs mean s by.pair built finds lines)
    own.0
    c.args.haystack.now c.see_bytes.ensures c.requires.valid c.args.from by.cache c.in_ok-found.found by.answer
    (own.1.0 loops))

pub returns-clause-own : goal.returns-clause-own
returns-clause-own c = automata_kept c.args.self.now c.args.cache.now _ c.find.ensures.same c.requires.own

pub returns-in_err-found-clause-own : goal.returns-in_err-found-clause-own
returns-in_err-found-clause-own c = automata_kept c.args.self.now c.args.cache.now _ c.find.ensures.same c.requires.own
