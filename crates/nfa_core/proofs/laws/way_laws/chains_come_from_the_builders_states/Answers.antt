use Rattle.nfa_core.proofs.RenamingPlaces.{chain_to}
use Rattle.nfa_core.proofs.laws.way_laws.chains_come_from_the_builders_states.Goals as goal

pub returns : goal.returns
returns c = chain_to
