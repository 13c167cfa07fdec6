use Rattle.lazy_dfa.proofs.OverlappingWalks.WalkGoesOnLemmas.{walk_kept, walk_counted}
use Rattle.lazy_dfa.proofs.laws.walk_laws.walks_go_on_where_nothing_was_cleared.Goals as goal

pub returns-clause-grown : goal.returns-clause-grown
returns-clause-grown c = λ d old new q w own owned g at. walk_kept d old new q w own g at

pub returns-clause-counted : goal.returns-clause-counted
returns-clause-counted c = λ d old new q w own owned kept same few at. walk_counted d old new q w own kept same few at
