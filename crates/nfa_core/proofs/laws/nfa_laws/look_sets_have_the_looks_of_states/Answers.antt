use Rattle.nfa_core.proofs.LookedLemmas.{looks_any, looks_prefix}
use Rattle.nfa_core.proofs.laws.nfa_laws.look_sets_have_the_looks_of_states.Goals as goal

pub returns-clause-any : goal.returns-clause-any
returns-clause-any c = λ a l. looks_any l a

pub returns-clause-prefix : goal.returns-clause-prefix
returns-clause-prefix c = λ a l. looks_prefix l a
