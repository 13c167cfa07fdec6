use Rattle.search_core.proofs.MarkLemmas.{coarsest}
use Rattle.search_core.proofs.class_laws.classes_are_the_coarsest.Goals as goal

pub returns : goal.returns
returns c = coarsest
