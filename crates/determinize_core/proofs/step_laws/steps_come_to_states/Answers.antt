use Rattle.determinize_core.proofs.StepStateLemmas.{step_state, start_state}
use Rattle.determinize_core.proofs.step_laws.steps_come_to_states.Goals as goal

pub returns-clause-step : goal.returns-clause-step
returns-clause-step c = step_state

pub returns-clause-start : goal.returns-clause-start
returns-clause-start c = start_state
