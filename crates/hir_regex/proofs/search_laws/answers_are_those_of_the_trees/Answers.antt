use Rattle.hir_regex.proofs.SearchLemmas.{answer_is_of_trees}
use Rattle.hir_regex.proofs.search_laws.answers_are_those_of_the_trees.Goals as goal

pub returns : goal.returns
returns c = answer_is_of_trees
