use Rattle.lazy_dfa.specs.Changes.{IsMadeBy}
use Rattle.lazy_dfa.proofs.CacheChanges.ChangeLawLemmas.{clears_few}
use Rattle.lazy_dfa.proofs.laws.change_laws.searches_clear_for_states.Goals as goal

pub returns : goal.returns
returns c = λ d q old new n changes small. let x = clears_few d (IsMadeBy d q) old small new n changes in (x.0, x.1)
