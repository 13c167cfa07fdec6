use Rattle.std.proofs.Common.{◌≡◌, ◌+◌, ◌*◌, drop}
use Rattle.hir_core.specs.Tree.{concat, alternation}
use Rattle.hir_core.specs.Weight.{weight}
use Rattle.line_search.specs.Edges.{asks_for_edge}
use Rattle.line_search.proofs.edges.+asks_for_edge.Given as goal

abbrev pub decreases-asks_for_edge : goal.decreases-asks_for_edge
decreases-asks_for_edge l = 2 * weight l.tree.now + 1

abbrev pub decreases-any_asks_for_edge : goal.decreases-any_asks_for_edge
decreases-any_asks_for_edge l = 2 * weight (concat l.trees.now)

abbrev pub invariant-any_asks_for_edge-loop-tree : goal.invariant-any_asks_for_edge-loop-tree
invariant-any_asks_for_edge-loop-tree l =
    (asks_for_edge (concat l.trees) ≡ asks_for_edge (concat (drop l.tree-index l.trees)))
    × (asks_for_edge (alternation l.trees) ≡ asks_for_edge (alternation (drop l.tree-index l.trees)))
