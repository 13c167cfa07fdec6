use Rattle.hir_regex.proofs.WalkMeansLemmas.{tells_meant, tells_meant_with}
use Rattle.hir_regex.proofs.tree_walk_laws.refused_walks_tell_nothing_else.Goals as goal

pub returns-clause-ascii : goal.returns-clause-ascii
returns-clause-ascii c = tells_meant

pub returns-clause-words : goal.returns-clause-words
returns-clause-words c = tells_meant_with
