use Rattle.determinize_core.proofs.WalkedLemmas.{states_are, matches_are}
use Rattle.determinize_core.proofs.walk_theorem.states_are_those_of_the_walk_under_all_looks.Goals as goal

pub returns-clause-states : goal.returns-clause-states
returns-clause-states c = λ kind a t h s i e q k formed below within low l. states_are kind a t h s e i q formed below within low k l

pub returns-clause-matches : goal.returns-clause-matches
returns-clause-matches c = λ kind a t h s i e q k formed below within low l. matches_are kind a t h s e i q formed below within low k l
