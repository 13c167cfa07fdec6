use Rattle.nfa_core.proofs.LookedLemmas.{sparse_leads, dense_leads}
use Rattle.nfa_core.proofs.laws.nfa_laws.transitions_lead_where_bytes_do.Goals as goal

pub returns-clause-sparse : goal.returns-clause-sparse
returns-clause-sparse c = sparse_leads

pub returns-clause-dense : goal.returns-clause-dense
returns-clause-dense c = dense_leads
