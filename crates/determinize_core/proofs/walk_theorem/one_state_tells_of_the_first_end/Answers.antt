use Rattle.determinize_core.proofs.ListedLemmas.{some_listed, never_listed}
use Rattle.determinize_core.proofs.walk_theorem.one_state_tells_of_the_first_end.Goals as goal

pub returns-clause-some : goal.returns-clause-some
returns-clause-some c = λ a t h s i e q formed below within low j p is. some_listed a t h s e i q formed below within low j p is

pub returns-clause-none : goal.returns-clause-none
returns-clause-none c = λ a t h s i e q formed below within low none k l. never_listed a t h s e i q formed below within low none k l
