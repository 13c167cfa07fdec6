use Rattle.search_core.proofs.RisingLemmas.{met_by_last, most_by_last, singletons_by_last}
use Rattle.search_core.proofs.class_laws.classes_that_rise_are_numbered_by_the_last.Goals as goal

pub returns-clause-met : goal.returns-clause-met
returns-clause-met c = λ classes n r l. met_by_last classes r n l

pub returns-clause-most : goal.returns-clause-most
returns-clause-most c = λ classes b r l. most_by_last classes r b l

pub returns-clause-own : goal.returns-clause-own
returns-clause-own c = λ classes b r e l. singletons_by_last classes r e b l
