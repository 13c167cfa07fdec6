use Rattle.nfa_core.proofs.AutomatonLemmas.{match_ends}
use Rattle.nfa_core.proofs.laws.run_laws.matches_lead_nowhere.Goals as goal

pub returns : goal.returns
returns c = match_ends
