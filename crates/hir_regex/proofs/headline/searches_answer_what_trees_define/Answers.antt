use Rattle.hir_regex.proofs.HeadlineLemmas.{answers_trees}
use Rattle.hir_regex.proofs.headline.searches_answer_what_trees_define.Goals as goal

pub returns : goal.returns
returns c = answers_trees
