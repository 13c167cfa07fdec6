use Rattle.std.proofs.Common.{◌≡◌, ◌+◌, ◌*◌, ◌++◌, take}
use Rattle.hir_core.specs.Tree.{concat, alternation}
use Rattle.hir_core.specs.Weight.{weight}
use Rattle.line_search.specs.Joined.{parts_of}
use Rattle.line_search.proofs.joining.+add_parts.Given as goal

abbrev pub decreases-add_parts : goal.decreases-add_parts
decreases-add_parts l = 2 * weight l.tree.now + 1

abbrev pub decreases-add_all_parts : goal.decreases-add_all_parts
decreases-add_all_parts l = 2 * weight (concat l.trees.now)

abbrev pub invariant-add_all_parts-loop-tree : goal.invariant-add_all_parts-loop-tree
invariant-add_all_parts-loop-tree l = l.parts.items ≡ l.initial.parts.items ++ parts_of (alternation (take l.tree-index l.trees))
