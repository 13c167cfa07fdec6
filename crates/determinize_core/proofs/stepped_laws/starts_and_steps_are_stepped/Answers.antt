use Rattle.determinize_core.proofs.SteppedLemmas.{step_stepped, start_stepped, dead_stepped}
use Rattle.determinize_core.proofs.stepped_laws.starts_and_steps_are_stepped.Goals as goal

pub returns-clause-step : goal.returns-clause-step
returns-clause-step c = step_stepped

pub returns-clause-start : goal.returns-clause-start
returns-clause-start c = start_stepped

pub returns-clause-dead : goal.returns-clause-dead
returns-clause-dead c = dead_stepped
