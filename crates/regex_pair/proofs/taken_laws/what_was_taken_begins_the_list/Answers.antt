use Rattle.regex_pair.proofs.TakenLemmas.{some_taken, taken_begin_the_list}
use Rattle.regex_pair.proofs.taken_laws.what_was_taken_begins_the_list.Goals as goal

pub returns-clause-chain : goal.returns-clause-chain
returns-clause-chain c = some_taken

pub returns-clause-begins : goal.returns-clause-begins
returns-clause-begins c = taken_begin_the_list
