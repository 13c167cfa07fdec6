use Rattle.lazy_dfa.specs.Changes.{IsMadeBy}
use Rattle.lazy_dfa.proofs.CacheChanges.ChangeLawLemmas.{kept_if_same, first_of_clears}
use Rattle.lazy_dfa.proofs.laws.change_laws.searches_add_states_on_their_way.Goals as goal

pub returns-clause-kept : goal.returns-clause-kept
returns-clause-kept c = λ d q old new n made own same less changes. kept_if_same d (IsMadeBy d q) made old own new n same less changes

pub returns-clause-cleared : goal.returns-clause-cleared
returns-clause-cleared c = λ d q old new n made own differ changes. first_of_clears d (IsMadeBy d q) made old own new n differ changes
