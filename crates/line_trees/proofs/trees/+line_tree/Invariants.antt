use Rattle.std.proofs.Common.{◌≡◌, ◌+◌, ◌*◌, map, take}
use Rattle.hir_core.specs.Tree.{concat}
use Rattle.hir_core.specs.Weight.{weight}
use Rattle.line_trees.specs.LineTrees.{line_tree}
use Rattle.line_trees.proofs.trees.+line_tree.Given as goal

abbrev pub decreases-line_tree : goal.decreases-line_tree
decreases-line_tree l = 2 * weight l.x.now + 1

abbrev pub decreases-all_line_trees : goal.decreases-all_line_trees
decreases-all_line_trees l = 2 * weight (concat l.xs.now)

abbrev pub invariant-all_line_trees-loop-x : goal.invariant-all_line_trees-loop-x
invariant-all_line_trees-loop-x l = l.ys.items ≡ map (line_tree l.crlf) (take l.x-index l.xs)
