use Rattle.std.proofs.Common.{◌≡◌, ◌++◌, false, List, OnOk, sym, ap, subst, ◌∙◌, arith}
use Rattle.hir_core.specs.Tree.{Tree, alternation}
use Rattle.hir_core.specs.Node.{node}
use Rattle.hir_core.specs.Weight.{weight}
use Rattle.hir_core.proofs.ForCallers.{weight_in_concat, weight_of_either}
use Rattle.line_search.specs.Joined.{has_parts}
use Rattle.line_search.proofs.JoinedLemmas.{adds_parts, concat_whole, own_part}
use Rattle.line_search.proofs.joining.+add_parts.Goals as goal

pub add_all_parts-add_parts-requires : goal.add_all_parts-add_parts-requires
add_all_parts-add_parts-requires t c = (
  omega (
    arith,
    weight_in_concat c.args.trees.now c.loop-tree.tree-index c.tree-item.result c.loop-tree-test.true,
    ap weight c.tree-item.is,
  ),
  tt,
)

pub add_all_parts-loop-tree-preserved : goal.add_all_parts-loop-tree-preserved
add_all_parts-loop-tree-preserved t c =
    adds_parts c.args.trees.now c.loop-tree.tree-index c.tree-item.result c.args.parts.now.items c.loop-tree.parts.items
    c.add_parts.new.parts.items c.loop-tree-test.true c.tree-item.is c.loop-tree.invariant c.in_ok-add_parts.ensures

pub add_parts-add_all_parts-requires : goal.add_parts-add_all_parts-requires
add_parts-add_all_parts-requires t c =
    let is = ap alternation c.deref-in-Alternation.ensures.value ∙ sym (ap node c.in-Alternation.is) ∙ c.kind.ensures.is in
    (omega (arith, weight_of_either c.deref-in-Alternation.result.now, ap weight is), tt)

pub add_parts-returns-in-Concat : goal.add_parts-returns-in-Concat
add_parts-returns-in-Concat t c =
    let whole : has_parts c.args.tree.now ≡ false =
    ap has_parts (sym c.kind.ensures.is ∙ ap node c.in-Concat.is) ∙ concat_whole _ in
    subst (λ (parts : List Tree). OnOk c.add_copy.result (c.add_copy.new.parts.items ≡ c.args.parts.now.items ++ parts))
    (sym (own_part c.args.tree.now whole)) c.add_copy.ensures
