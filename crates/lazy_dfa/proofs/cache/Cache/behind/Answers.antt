use Rattle.std.proofs.Common.{◌∙◌, ap}
use Rattle.search_core.specs.Units.{unit_byte}
use Rattle.determinize_core.specs.States.{StateValue}
use Rattle.determinize_core.specs.Steps.{step_value}
use Rattle.lazy_dfa.specs.Caches.{CacheValue}
use Rattle.lazy_dfa.proofs.CacheChanges.CacheLemmas.{read_state}
use Rattle.lazy_dfa.proofs.cache.Cache.behind.Goals as goal

pub returns-clause-value : goal.returns-clause-value
returns-clause-value g c =
    c.in_ok-behind.ensures.value
    ∙ ap (λ (s : StateValue). step_value c.args.nfa.now.automaton c.args.nfa.now.terminator c.args.kind s (unit_byte c.args.unit))
    (read_state c.self.inside.states.items c.args.self.now c.args.k c.index.result.now
    (ap (λ (v : CacheValue). v.states) c.self.view_is) c.index.ensures c.requires.row)
