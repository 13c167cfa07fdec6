use Rattle.hir_regex.proofs.SearchLemmas.{chain_is_list, chain_begins_list}
use Rattle.hir_regex.proofs.search_laws.lists_are_those_of_the_trees.Goals as goal

pub returns-clause-whole : goal.returns-clause-whole
returns-clause-whole c = chain_is_list

pub returns-clause-begins : goal.returns-clause-begins
returns-clause-begins c = chain_begins_list
