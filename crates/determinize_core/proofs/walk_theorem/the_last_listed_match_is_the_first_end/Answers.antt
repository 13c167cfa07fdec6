use Rattle.determinize_core.proofs.ListedLemmas.{latest_is_first, latest_is_preferred_run}
use Rattle.determinize_core.proofs.walk_theorem.the_last_listed_match_is_the_first_end.Goals as goal

pub returns-clause-preferred : goal.returns-clause-preferred
returns-clause-preferred c = λ a t h s i e q formed below within low. latest_is_preferred_run a t h s e i q formed below within low

pub returns-clause-first : goal.returns-clause-first
returns-clause-first c = λ a t h s i e q formed below within low. latest_is_first a t h s e i q formed below within low
