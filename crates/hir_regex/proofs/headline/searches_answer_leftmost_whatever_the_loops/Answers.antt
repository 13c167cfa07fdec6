use Rattle.hir_regex.proofs.HeadlineLemmas.{answers_trees_loosely}
use Rattle.hir_regex.proofs.headline.searches_answer_leftmost_whatever_the_loops.Goals as goal

pub returns : goal.returns
returns c = answers_trees_loosely
