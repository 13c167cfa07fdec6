use Rattle.std.proofs.Common.{ap}
use Rattle.nfa_core.specs.NfaValue.{Nfa}
use Rattle.lazy_dfa.proofs.CacheChanges.IsCacheLemmas.{first_of, first_is}
use Rattle.lazy_dfa.proofs.steps.starting.first_of.Goals as goal

pub returns-clause-value : goal.returns-clause-value
returns-clause-value g c = first_of c.args.dfa.now c.get_nfa-nfa.result.now.automaton c.get_nfa-nfa.result.now.terminator c.args.start
    c.args.name c.in_ok-state.state
    (ap (λ (n : Nfa). n.automaton) c.get_nfa-nfa.ensures) (ap (λ (n : Nfa). n.terminator) c.get_nfa-nfa.ensures) c.in_ok-state.ensures.value

pub returns-clause-is : goal.returns-clause-is
returns-clause-is g c = first_is c.args.dfa.now c.args.start c.args.name c.in_ok-state.state c.is_made.ensures c.requires.below
    (first_of c.args.dfa.now c.get_nfa-nfa.result.now.automaton c.get_nfa-nfa.result.now.terminator c.args.start c.args.name
    c.in_ok-state.state
    (ap (λ (n : Nfa). n.automaton) c.get_nfa-nfa.ensures) (ap (λ (n : Nfa). n.terminator) c.get_nfa-nfa.ensures)
    c.in_ok-state.ensures.value)
