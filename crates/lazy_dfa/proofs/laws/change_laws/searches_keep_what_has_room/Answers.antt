use Rattle.lazy_dfa.specs.Changes.{IsMadeBy}
use Rattle.lazy_dfa.proofs.CacheChanges.ChangeLawLemmas.{kept_if_room, kept_if_spent}
use Rattle.lazy_dfa.proofs.laws.change_laws.searches_keep_what_has_room.Goals as goal

pub returns-clause-room : goal.returns-clause-room
returns-clause-room c = λ d q old new n made own room changes. kept_if_room d (IsMadeBy d q) made old own new n room changes

pub returns-clause-spent : goal.returns-clause-spent
returns-clause-spent c = λ d q old new n made own spent changes. kept_if_spent d (IsMadeBy d q) made old own new n spent changes
