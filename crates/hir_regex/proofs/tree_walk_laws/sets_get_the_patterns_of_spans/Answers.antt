use Rattle.hir_regex.proofs.WhichTreeLemmas.{adds_ascii, adds_words}
use Rattle.hir_regex.proofs.tree_walk_laws.sets_get_the_patterns_of_spans.Goals as goal

pub returns-clause-ascii : goal.returns-clause-ascii
returns-clause-ascii c = adds_ascii

pub returns-clause-words : goal.returns-clause-words
returns-clause-words c = adds_words
