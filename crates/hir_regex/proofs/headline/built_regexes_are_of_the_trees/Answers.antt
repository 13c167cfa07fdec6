use Rattle.hir_regex.proofs.BuiltLemmas.{built_regex, forward_quits, reverse_quits}
use Rattle.hir_regex.proofs.headline.built_regexes_are_of_the_trees.Goals as goal

pub returns-clause-regex : goal.returns-clause-regex
returns-clause-regex c = λ xs s p made first. built_regex xs s p made first

pub returns-clause-quits : goal.returns-clause-quits
returns-clause-quits c = λ xs s p made. (forward_quits xs s p made, reverse_quits xs s p made)
