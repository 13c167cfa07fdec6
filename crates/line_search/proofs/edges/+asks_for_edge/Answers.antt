use Rattle.std.proofs.Common.{sym, ap, ◌∙◌, arith}
use Rattle.hir_core.specs.Tree.{alternation}
use Rattle.hir_core.specs.Node.{node}
use Rattle.hir_core.specs.Weight.{weight}
use Rattle.hir_core.proofs.ForCallers.{weight_in_concat, weight_of_either}
use Rattle.line_search.proofs.edges.+asks_for_edge.Goals as goal

pub any_asks_for_edge-asks_for_edge-requires : goal.any_asks_for_edge-asks_for_edge-requires
any_asks_for_edge-asks_for_edge-requires t c = (
  omega (arith, weight_in_concat c.args.trees.now c.loop-tree.tree-index c.tree-item.result c.loop-tree-test.true, ap weight c.tree-item.is),
  tt,
)

pub asks_for_edge-any_asks_for_edge-requires-in-Alternation : goal.asks_for_edge-any_asks_for_edge-requires-in-Alternation
asks_for_edge-any_asks_for_edge-requires-in-Alternation t c =
    let is = ap alternation c.deref-in-Alternation.ensures.value ∙ sym (ap node c.in-Alternation.is) ∙ c.kind.ensures.is in
    (omega (arith, weight_of_either c.deref-in-Alternation.result.now, ap weight is), tt)
