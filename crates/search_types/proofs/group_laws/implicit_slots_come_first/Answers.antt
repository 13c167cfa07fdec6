use Rattle.search_types.proofs.GroupLaws.{first_is_implicit, other_is_explicit}
use Rattle.search_types.proofs.group_laws.implicit_slots_come_first.Goals as goal

pub returns-clause-first : goal.returns-clause-first
returns-clause-first c = first_is_implicit

pub returns-clause-other : goal.returns-clause-other
returns-clause-other c = other_is_explicit
