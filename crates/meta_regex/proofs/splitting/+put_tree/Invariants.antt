use Rattle.std.proofs.Common.{◌+◌, ◌*◌, ◌≤◌, length, drop}
use Rattle.hir_core.specs.Tree.{concat}
use Rattle.hir_core.specs.Weight.{weight}
use Rattle.meta_regex.specs.Splitting.{PutsParts}
use Rattle.meta_regex.proofs.splitting.+put_tree.Given as goal

abbrev pub decreases-put_tree : goal.decreases-put_tree
decreases-put_tree l = 2 * weight l.x.now + 1

abbrev pub decreases-put_trees : goal.decreases-put_trees
decreases-put_trees l = 2 * weight (concat l.xs.now)

abbrev pub invariant-put_trees-loop-n : goal.invariant-put_trees-loop-n
invariant-put_trees-loop-n l = (l.n ≤ length l.xs) × PutsParts (concat (drop l.n l.xs)) l.initial.parts.items l.parts.items

abbrev pub decreases-put_trees-loop-n : goal.decreases-put_trees-loop-n
decreases-put_trees-loop-n l = l.n
