use Rattle.hir_regex.proofs.BuiltWalkLemmas.{walks_reverse, walks_forward}
use Rattle.hir_regex.proofs.tree_walk_laws.built_automata_are_walked.Goals as goal

pub returns-clause-is_reverse : goal.returns-clause-is_reverse
returns-clause-is_reverse c = walks_reverse

pub returns-clause-is_forward : goal.returns-clause-is_forward
returns-clause-is_forward c = walks_forward
