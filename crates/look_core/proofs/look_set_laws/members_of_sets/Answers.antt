use Rattle.look_core.proofs.LookSetLemmas.{has_look-union, has_look-shared, has_look-without}
use Rattle.look_core.proofs.LookSetLemmas.{has_look-with, has_look-without_look}
use Rattle.look_core.proofs.look_set_laws.members_of_sets.Goals as goal

pub returns-clause-union : goal.returns-clause-union
returns-clause-union c = has_look-union

pub returns-clause-shared : goal.returns-clause-shared
returns-clause-shared c = has_look-shared

pub returns-clause-without : goal.returns-clause-without
returns-clause-without c = has_look-without

pub returns-clause-inserted : goal.returns-clause-inserted
returns-clause-inserted c = has_look-with

pub returns-clause-removed : goal.returns-clause-removed
returns-clause-removed c = has_look-without_look
