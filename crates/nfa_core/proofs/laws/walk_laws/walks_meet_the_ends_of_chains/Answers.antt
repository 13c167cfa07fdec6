use Rattle.nfa_core.proofs.EndsLemmas.{chains_met}
use Rattle.nfa_core.proofs.laws.walk_laws.walks_meet_the_ends_of_chains.Goals as goal

pub returns : goal.returns
returns c = chains_met
