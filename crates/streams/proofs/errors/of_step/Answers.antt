use Rattle.streams.proofs.ErrorLemmas.{step_limit}
use Rattle.streams.proofs.errors.of_step.Goals as goal

pub returns-in-GaveUp-clause-step : goal.returns-in-GaveUp-clause-step
returns-in-GaveUp-clause-step c = λ d v id u s h cause. step_limit d v id u s c.args.error c.in-GaveUp.is h cause
