use Rattle.hir_regex.proofs.WalkMeansLemmas.{tells_ascii, tells_words, tells_quiet}
use Rattle.hir_regex.proofs.tree_walk_laws.walks_tell_what_trees_mean.Goals as goal

pub returns-clause-ascii : goal.returns-clause-ascii
returns-clause-ascii c = tells_ascii

pub returns-clause-words : goal.returns-clause-words
returns-clause-words c = tells_words

pub returns-clause-quiet : goal.returns-clause-quiet
returns-clause-quiet c = tells_quiet
