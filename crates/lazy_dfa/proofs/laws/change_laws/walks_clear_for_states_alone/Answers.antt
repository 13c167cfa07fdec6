use Rattle.lazy_dfa.specs.OverlappingAnswers.{IsMadeOnOverlapping}
use Rattle.lazy_dfa.proofs.CacheChanges.ChangeLawLemmas.{clears_few, kept_if_room, kept_if_spent, kept_if_same, first_of_clears}
use Rattle.lazy_dfa.proofs.CacheChanges.ChangeLawLemmas.{last_of_clears}
use Rattle.lazy_dfa.proofs.laws.change_laws.walks_clear_for_states_alone.Goals as goal

pub returns-clause-count : goal.returns-clause-count
returns-clause-count c = λ d q old new n changes small. let x = clears_few d (IsMadeOnOverlapping d q) old small new n changes in (x.0, x.1)

pub returns-clause-room : goal.returns-clause-room
returns-clause-room c = λ d q old new n made own room changes. kept_if_room d (IsMadeOnOverlapping d q) made old own new n room changes

pub returns-clause-spent : goal.returns-clause-spent
returns-clause-spent c = λ d q old new n made own spent changes. kept_if_spent d (IsMadeOnOverlapping d q) made old own new n spent changes

pub returns-clause-kept : goal.returns-clause-kept
returns-clause-kept c = λ d q old new n made own same less changes. kept_if_same d (IsMadeOnOverlapping d q) made old own new n same less
    changes

pub returns-clause-cleared : goal.returns-clause-cleared
returns-clause-cleared c = λ d q old new n made own differ changes. first_of_clears d (IsMadeOnOverlapping d q) made old own new n differ
    changes

pub returns-clause-left : goal.returns-clause-left
returns-clause-left c = λ d q old new n differ changes. last_of_clears d (IsMadeOnOverlapping d q) old new n differ changes
