use Rattle.std.proofs.Common.{◌≡◌, ◌+◌, ◌*◌, map, take}
use Rattle.hir_core.specs.Tree.{concat}
use Rattle.hir_core.specs.Weight.{weight}
use Rattle.line_trees.specs.WordlessTrees.{wordless_tree}
use Rattle.line_trees.proofs.wordless.+wordless_tree.Given as goal

abbrev pub decreases-wordless_tree : goal.decreases-wordless_tree
decreases-wordless_tree l = 2 * weight l.x.now + 1

abbrev pub decreases-all_wordless_trees : goal.decreases-all_wordless_trees
decreases-all_wordless_trees l = 2 * weight (concat l.xs.now)

abbrev pub invariant-all_wordless_trees-loop-x : goal.invariant-all_wordless_trees-loop-x
invariant-all_wordless_trees-loop-x l = l.ys.items ≡ map wordless_tree (take l.x-index l.xs)
