use Rattle.std.proofs.Common.{◌∙◌, sym}
use Rattle.lazy_dfa.proofs.Courses.SpanLemmas.{stays_between}
use Rattle.lazy_dfa.proofs.Courses.LingerLemmas.{lingers_forward, lingers_reverse}
use Rattle.lazy_dfa.specs.SearchAnswers.{pair_of}
use Rattle.lazy_dfa.proofs.search.match_loop.linger.Goals as goal

pub returns-then-get_earliest-clause-goes : goal.returns-then-get_earliest-clause-goes
returns-then-get_earliest-clause-goes c = stays_between c.args.dfa.now c.args.cache.now c.args.input.now c.args.is_reverse
    c.args.position.at c.args.position.id (pair_of c.args.position.best)
    c.requires.own c.requires.row c.args.input.now.earliest

pub returns-then-is_reverse-clause-goes : goal.returns-then-is_reverse-clause-goes
returns-then-is_reverse-clause-goes c = lingers_reverse c.args.dfa.now c.args.cache.now c.args.input.now c.haystack-haystack.result.now
    c.args.is_reverse c.args.position.at c.args.position.id
    c.linger_reverse-run.result.at c.linger_reverse-run.result.id c.linger_reverse-run.result.met.id c.linger_reverse-run.result.met.last
    c.start.result
    c.requires.own c.haystack-haystack.ensures.value (sym c.get_earliest.ensures ∙ c.if-get_earliest.false)
    (pair_of c.args.position.best) (pair_of c.best_after.result) c.best_after.ensures.still c.best_after.ensures.last
    c.if-is_reverse.true c.start.ensures.value c.linger_reverse-run.ensures.past c.linger_reverse-run.ensures.within
    c.linger_reverse-run.ensures.lingers

pub returns-clause-goes : goal.returns-clause-goes
returns-clause-goes c = lingers_forward c.args.dfa.now c.args.cache.now c.args.input.now c.haystack-haystack.result.now c.args.is_reverse
    c.args.position.at c.args.position.id
    c.linger_forward-run.result.at c.linger_forward-run.result.id c.linger_forward-run.result.met.id c.linger_forward-run.result.met.last
    c.end.result
    c.requires.own c.haystack-haystack.ensures.value (sym c.get_earliest.ensures ∙ c.if-get_earliest.false)
    (pair_of c.args.position.best) (pair_of c.best_after-2.result) c.best_after-2.ensures.still c.best_after-2.ensures.last
    c.if-is_reverse.false c.end.ensures.value c.linger_forward-run.ensures.past c.linger_forward-run.ensures.within
    c.linger_forward-run.ensures.lingers
