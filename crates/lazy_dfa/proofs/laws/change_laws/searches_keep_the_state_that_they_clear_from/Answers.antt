use Rattle.lazy_dfa.specs.Changes.{IsMadeBy}
use Rattle.lazy_dfa.proofs.CacheChanges.ChangeLawLemmas.{last_of_clears}
use Rattle.lazy_dfa.proofs.laws.change_laws.searches_keep_the_state_that_they_clear_from.Goals as goal

pub returns : goal.returns
returns c = λ d q old new n differ changes. last_of_clears d (IsMadeBy d q) old new n differ changes
