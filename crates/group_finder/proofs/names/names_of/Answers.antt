use Rattle.group_finder.proofs.GroupLemmas.{names_read, pattern_read}
use Rattle.group_finder.proofs.names.names_of.Goals as goal

pub returns-in-Err-clause-refused : goal.returns-in-Err-clause-refused
returns-in-Err-clause-refused c limit = c.cause_of.ensures _ _ limit c.in-Err.ensures.err

pub returns-clause-made : goal.returns-clause-made
returns-clause-made c = names_read _ _ _ _ c.in-Ok.ensures.ok

pub returns-clause-pattern : goal.returns-clause-pattern
returns-clause-pattern c = pattern_read _ _ _ _ c.in-Ok.ensures.ok
