use Rattle.thompson_nfa.proofs.CallerLemmas.{looks_are_used}
use Rattle.thompson_nfa.proofs.laws.compile_laws.states_have_the_looks_that_trees_use.Goals as goal

pub returns : goal.returns
returns c = looks_are_used
