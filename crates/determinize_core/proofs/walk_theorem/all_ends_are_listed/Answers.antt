use Rattle.determinize_core.proofs.ListedLemmas.{all_listed}
use Rattle.determinize_core.proofs.walk_theorem.all_ends_are_listed.Goals as goal

pub returns : goal.returns
returns c = λ a t h s i e q k formed below within low l. all_listed a t h s e i q formed below within low k l
