use Rattle.determinize_core.proofs.AlikeLemmas.{units_step_alike, units_start_alike}
use Rattle.determinize_core.proofs.alike_laws.alike_units_step_alike.Goals as goal

pub returns-clause-step : goal.returns-clause-step
returns-clause-step c = units_step_alike

pub returns-clause-start : goal.returns-clause-start
returns-clause-start c = units_start_alike
