use Rattle.hir_regex.proofs.WalkMeansLemmas.{done_tells_none, no_tree_tells_none}
use Rattle.hir_regex.proofs.tree_walk_laws.walks_over_trees_may_have_nothing_to_tell.Goals as goal

pub returns-clause-done : goal.returns-clause-done
returns-clause-done c = done_tells_none

pub returns-clause-no_tree : goal.returns-clause-no_tree
returns-clause-no_tree c = no_tree_tells_none
