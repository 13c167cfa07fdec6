use Rattle.determinize_core.proofs.StepLawLemmas.{step_below, step_once, start_below, start_once}
use Rattle.determinize_core.proofs.step_laws.steps_come_to_states_of_the_automaton.Goals as goal

pub returns-clause-below : goal.returns-clause-below
returns-clause-below c = λ a t kind v u formed. step_below a t kind v u formed

pub returns-clause-once : goal.returns-clause-once
returns-clause-once c = λ a t kind v u. step_once a t kind v u

pub returns-clause-start_below : goal.returns-clause-start_below
returns-clause-start_below c = start_below

pub returns-clause-start_once : goal.returns-clause-start_once
returns-clause-start_once c = start_once
