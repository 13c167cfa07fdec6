use Rattle.determinize_core.proofs.KnownStateLemmas.{state_with_known}
use Rattle.determinize_core.proofs.start_laws.states_with_what_is_known_are_states.Goals as goal

pub returns-clause-state : goal.returns-clause-state
returns-clause-state c = state_with_known
