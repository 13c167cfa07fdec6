use Rattle.std.proofs.Common.{Option, ℕ, sym, subst}
use Rattle.std.specs.Prelude.{IfErr, IfOk, Result, length}
use Rattle.search_types.specs.Inputs.{Search}
use Rattle.search_types.specs.declared.match_error.MatchErrorKind.{MatchErrorKind}
use Rattle.lazy_dfa.specs.SearchAnswers.{Answers}
use Rattle.regex_pair.specs.Pairs.{Pair}
use Rattle.growing_regex.specs.Earliest.{IsEarliestEnd, IsEarliestError, earliest_search, looks_by}
use Rattle.growing_regex.specs.Growing.{AreGrown, Growing, sized_settings}
use Rattle.growing_regex.proofs.AnswerLemmas.{ends_found, ends_refused}
use Rattle.growing_regex.proofs.GrownLemmas.{error_kept}
use Rattle.growing_regex.proofs.regex.GrowingRegex.find_earliest_end.Goals as goal

pub returns-clause-found : goal.returns-clause-found
returns-clause-found c xs s built first plain words set =
    let p : Pair = c.self.inside.regex.value in
    let h = c.args.block.now in
    let grown : AreGrown c.args.self.now p = subst (λ (g : Growing). AreGrown g p) c.self.view_is c.self.invariant.0 in
    let v = c.search_counted-half.new.cache.forward in
    let answer = subst (λ (q : Search). Answers p.forward v q c.search_counted-half.result) c.search_from-input.ensures
    (subst (λ (x : Pair). Answers x.forward v c.search_from-input.result c.search_counted-half.result) c.deref.ensures c.search_counted-half.ensures.answer) in
    subst (λ (r : Result (Option ℕ) MatchErrorKind). IfOk r (λ o. IsEarliestEnd xs (looks_by words s h) h c.args.at (length h) o))
    (sym c.end_of-found.ensures)
    (ends_found xs (looks_by words s h) h c.args.at c.search_counted-half.result
    (λ o is. c.calls_report_the_least_end.ensures.found xs (sized_settings grown.capacity s) p (grown.built xs s built) first plain h
    c.see_bytes.ensures words set c.args.at v o (subst (Answers p.forward v (earliest_search h c.args.at (length h))) is answer)))

pub returns-clause-refused : goal.returns-clause-refused
returns-clause-refused c xs s built first plain words set =
    let p : Pair = c.self.inside.regex.value in
    let h = c.args.block.now in
    let grown : AreGrown c.args.self.now p = subst (λ (g : Growing). AreGrown g p) c.self.view_is c.self.invariant.0 in
    let v = c.search_counted-half.new.cache.forward in
    let answer = subst (λ (q : Search). Answers p.forward v q c.search_counted-half.result) c.search_from-input.ensures
    (subst (λ (x : Pair). Answers x.forward v c.search_from-input.result c.search_counted-half.result) c.deref.ensures c.search_counted-half.ensures.answer) in
    subst (λ (r : Result (Option ℕ) MatchErrorKind). IfErr r (λ e. IsEarliestError words xs s h c.args.at e)) (sym c.end_of-found.ensures)
    (ends_refused (λ e. IsEarliestError words xs s h c.args.at e) c.search_counted-half.result
    (λ e is. error_kept words xs s grown.capacity h c.args.at e
    (c.calls_report_the_least_end.ensures.refused xs (sized_settings grown.capacity s) p (grown.built xs s built) first plain h
    c.see_bytes.ensures words set c.args.at v e (subst (Answers p.forward v (earliest_search h c.args.at (length h))) is answer))))
