use Rattle.lazy_dfa.proofs.OverlappingWalks.FoundNextLemmas.{finds_next}
use Rattle.lazy_dfa.proofs.OverlappingWalks.WalkClauseLemmas.{answers_call, call_leaves_cache, counts_call, reports_call}
use Rattle.lazy_dfa.proofs.automaton.dfa.DFA.try_search_overlapping_fwd.Goals as goal

pub returns-clause-found : goal.returns-clause-found
returns-clause-found g c = finds_next c.args.self.now c.args.input.now c.args.cache.now c.call.new.cache c.args.state.now.walk c.call.new.state
    c.call.ensures.made c.call.ensures.within.0 c.requires.walk c.call.ensures.call.walk c.call.result c.call.ensures.call.answer

pub returns-clause-answer : goal.returns-clause-answer
returns-clause-answer g c = answers_call c.call.ensures.call

pub returns-clause-cache : goal.returns-clause-cache
returns-clause-cache g c = call_leaves_cache c.call.ensures.call

pub returns-clause-work : goal.returns-clause-work
returns-clause-work g c = counts_call c.call.ensures.call

pub returns-clause-progress : goal.returns-clause-progress
returns-clause-progress g c = reports_call c.call.ensures.call
