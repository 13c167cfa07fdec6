use Rattle.hir_regex.proofs.HeadlineLemmas.{taken_begin, taken_are_all}
use Rattle.hir_regex.proofs.headline.iterators_list_the_answers.Goals as goal

pub returns-clause-begins : goal.returns-clause-begins
returns-clause-begins c = taken_begin

pub returns-clause-whole : goal.returns-clause-whole
returns-clause-whole c = taken_are_all
