use Rattle.determinize_core.proofs.LengthLemmas.{length-encoded}
use Rattle.determinize_core.proofs.state_laws.states_are_short.Goals as goal

pub returns : goal.returns
returns c = length-encoded
