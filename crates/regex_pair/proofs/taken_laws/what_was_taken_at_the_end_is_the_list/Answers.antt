use Rattle.regex_pair.proofs.TakenLemmas.{all_by_step, taken_are_the_list}
use Rattle.regex_pair.proofs.taken_laws.what_was_taken_at_the_end_is_the_list.Goals as goal

pub returns-clause-chain : goal.returns-clause-chain
returns-clause-chain c = all_by_step

pub returns-clause-all : goal.returns-clause-all
returns-clause-all c = taken_are_the_list
