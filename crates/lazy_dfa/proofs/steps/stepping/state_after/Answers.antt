use Rattle.std.proofs.Common.{ap}
use Rattle.search_core.specs.Units.{unit_byte}
use Rattle.nfa_core.specs.NfaValue.{Nfa}
use Rattle.lazy_dfa.specs.Caches.{state_at}
use Rattle.lazy_dfa.proofs.CacheChanges.IsCacheLemmas.{after_of, state_of}
use Rattle.lazy_dfa.proofs.steps.stepping.state_after.Goals as goal

pub returns-clause-value : goal.returns-clause-value
returns-clause-value g c = after_of c.args.dfa.now c.get_nfa-nfa.result.now.automaton c.get_nfa-nfa.result.now.terminator c.kind.result
    (state_at c.args.cache.now c.args.k) (unit_byte c.args.unit) c.in_ok-state.state
    (ap (λ (n : Nfa). n.automaton) c.get_nfa-nfa.ensures) (ap (λ (n : Nfa). n.terminator) c.get_nfa-nfa.ensures) c.kind.ensures
    c.in_ok-state.ensures.value

pub returns-clause-is : goal.returns-clause-is
returns-clause-is g c = state_of c.args.dfa.now (state_at c.args.cache.now c.args.k)
    (unit_byte c.args.unit) c.in_ok-state.state c.is_made.ensures
    (after_of c.args.dfa.now c.get_nfa-nfa.result.now.automaton c.get_nfa-nfa.result.now.terminator c.kind.result
    (state_at c.args.cache.now c.args.k) (unit_byte c.args.unit) c.in_ok-state.state
    (ap (λ (n : Nfa). n.automaton) c.get_nfa-nfa.ensures) (ap (λ (n : Nfa). n.terminator) c.get_nfa-nfa.ensures) c.kind.ensures
    c.in_ok-state.ensures.value)
