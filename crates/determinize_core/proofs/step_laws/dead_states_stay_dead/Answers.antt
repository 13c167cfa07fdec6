use Rattle.determinize_core.proofs.StepLawLemmas.{stays_dead, comes_to_none}
use Rattle.determinize_core.proofs.step_laws.dead_states_stay_dead.Goals as goal

pub returns-clause-dead : goal.returns-clause-dead
returns-clause-dead c = stays_dead

pub returns-clause-none : goal.returns-clause-none
returns-clause-none c = λ a t kind v u no_match no_state. comes_to_none a t kind v u no_match no_state
