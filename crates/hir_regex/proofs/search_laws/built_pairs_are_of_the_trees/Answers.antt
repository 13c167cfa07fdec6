use Rattle.hir_regex.proofs.BuiltPairLemmas.{built_pair_is}
use Rattle.hir_regex.proofs.search_laws.built_pairs_are_of_the_trees.Goals as goal

pub returns : goal.returns
returns c = built_pair_is
