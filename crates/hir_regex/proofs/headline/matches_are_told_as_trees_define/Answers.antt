use Rattle.hir_regex.proofs.HeadlineLemmas.{match_of_trees}
use Rattle.hir_regex.proofs.headline.matches_are_told_as_trees_define.Goals as goal

pub returns : goal.returns
returns c = match_of_trees
