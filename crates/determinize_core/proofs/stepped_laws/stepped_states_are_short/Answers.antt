-- Cited through ForCallers, so that the check of this crate reads that file.
use Rattle.determinize_core.proofs.ForCallers.{stepped_short}
use Rattle.determinize_core.proofs.stepped_laws.stepped_states_are_short.Goals as goal

pub returns : goal.returns
returns c = stepped_short
