use Rattle.search_core.specs.Units.{unit_byte}
use Rattle.lazy_dfa.proofs.CacheChanges.StepLemmas.{step_held}
use Rattle.lazy_dfa.proofs.automaton.dfa.DFA.next_state.Goals as goal

pub returns-clause-held : goal.returns-clause-held
returns-clause-held g c = step_held c.args.self.now c.args.current (unit_byte c.u8.result) c.args.cache.now c.step.new.cache
    c.args.work.now.determinized c.step.new.work.determinized c.args.work.now.inserted c.step.new.work.inserted
    c.step.result c.requires.held c.step.ensures.step
