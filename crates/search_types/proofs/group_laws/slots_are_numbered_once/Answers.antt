use Rattle.search_types.proofs.GroupLaws.{slot_of_some, slot_of_one, slot_in_range}
use Rattle.search_types.proofs.group_laws.slots_are_numbered_once.Goals as goal

pub returns-clause-some : goal.returns-clause-some
returns-clause-some c = slot_of_some

pub returns-clause-one : goal.returns-clause-one
returns-clause-one c = slot_of_one

pub returns-clause-in_range : goal.returns-clause-in_range
returns-clause-in_range c = slot_in_range
