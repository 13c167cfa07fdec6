use Rattle.std.proofs.Common.{sym, ap, ◌∙◌, arith}
use Rattle.hir_core.specs.Tree.{concat, alternation}
use Rattle.hir_core.specs.Node.{node}
use Rattle.hir_core.specs.Weight.{weight}
use Rattle.hir_core.proofs.ForCallers.{weight_in_concat, weight_of_either}
use Rattle.line_trees.specs.LineTrees.{line_tree}
use Rattle.line_trees.proofs.ListLemmas.{line_of_concat, line_of_alternation}
use Rattle.line_trees.proofs.trees.+line_tree.Goals as goal

pub all_line_trees-line_tree-requires : goal.all_line_trees-line_tree-requires
all_line_trees-line_tree-requires t c = (
  omega (arith, weight_in_concat c.args.xs.now c.loop-x.x-index c.x-item.result c.loop-x-test.true, ap weight c.x-item.is),
  tt,
)

pub line_tree-all_line_trees-requires-in-Alternation : goal.line_tree-all_line_trees-requires-in-Alternation
line_tree-all_line_trees-requires-in-Alternation t c =
    let is = ap alternation c.deref-in-Alternation.ensures.value ∙ sym (ap node c.in-Alternation.is) ∙ c.kind.ensures.is in
    (omega (arith, weight_of_either c.deref-in-Alternation.result.now, ap weight is), tt)

pub line_tree-returns-in_ok-all_line_trees-in-Concat : goal.line_tree-returns-in_ok-all_line_trees-in-Concat
line_tree-returns-in_ok-all_line_trees-in-Concat t c =
    let is = ap concat c.deref-in-Concat.ensures.value ∙ sym (ap node c.in-Concat.is) ∙ c.kind.ensures.is in
    c.concat.ensures ∙ ap concat c.in_ok-all_line_trees-in-Concat.ensures
    ∙ sym (line_of_concat c.args.crlf c.deref-in-Concat.result.now) ∙ ap (line_tree c.args.crlf) is

pub line_tree-returns-in_ok-all_line_trees-in-Alternation : goal.line_tree-returns-in_ok-all_line_trees-in-Alternation
line_tree-returns-in_ok-all_line_trees-in-Alternation t c =
    let is = ap alternation c.deref-in-Alternation.ensures.value ∙ sym (ap node c.in-Alternation.is) ∙ c.kind.ensures.is in
    c.alternation.ensures ∙ ap alternation c.in_ok-all_line_trees-in-Alternation.ensures
    ∙ sym (line_of_alternation c.args.crlf c.deref-in-Alternation.result.now) ∙ ap (line_tree c.args.crlf) is
