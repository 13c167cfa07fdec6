use Rattle.hir_regex.proofs.WalkMeansLemmas.{tells_once, tells_in_order}
use Rattle.hir_regex.proofs.tree_walk_laws.walks_over_trees_tell_each_once.Goals as goal

pub returns-clause-once : goal.returns-clause-once
returns-clause-once c = tells_once

pub returns-clause-ordered : goal.returns-clause-ordered
returns-clause-ordered c = tells_in_order
