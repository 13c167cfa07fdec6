use Rattle.lazy_dfa.proofs.Automata.AccountingLemmas.{usage_of_more}
use Rattle.lazy_dfa.proofs.laws.accounting_laws.states_add_to_the_usage.Goals as goal

pub returns-clause-more : goal.returns-clause-more
returns-clause-more c = λ m held v. usage_of_more m held v
