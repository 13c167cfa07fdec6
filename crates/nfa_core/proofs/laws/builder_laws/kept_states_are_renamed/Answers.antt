use Rattle.nfa_core.proofs.RenamingAutomaton.{state_inside}
use Rattle.nfa_core.proofs.RenamingAutomaton.{state_renamed}
use Rattle.nfa_core.proofs.RenamingAutomaton.{one_state}
use Rattle.nfa_core.proofs.RenamingAutomaton.{state_named}
use Rattle.nfa_core.proofs.laws.builder_laws.kept_states_are_renamed.Goals as goal

pub returns : goal.returns
returns c = record {
  inside = state_inside;
  state = state_renamed;
  one = one_state;
  all = state_named;
}
