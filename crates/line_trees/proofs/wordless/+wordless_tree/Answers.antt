use Rattle.std.proofs.Common.{sym, ap, ◌∙◌, arith}
use Rattle.hir_core.specs.Tree.{concat, alternation}
use Rattle.hir_core.specs.Node.{node}
use Rattle.hir_core.specs.Weight.{weight}
use Rattle.hir_core.proofs.ForCallers.{weight_in_concat, weight_of_either}
use Rattle.line_trees.specs.WordlessTrees.{wordless_tree}
use Rattle.line_trees.proofs.ListLemmas.{wordless_of_concat, wordless_of_alternation}
use Rattle.line_trees.proofs.wordless.+wordless_tree.Goals as goal

pub all_wordless_trees-wordless_tree-requires : goal.all_wordless_trees-wordless_tree-requires
all_wordless_trees-wordless_tree-requires t c = (
  omega (arith, weight_in_concat c.args.xs.now c.loop-x.x-index c.x-item.result c.loop-x-test.true, ap weight c.x-item.is),
  tt,
)

pub wordless_tree-all_wordless_trees-requires-in-Alternation : goal.wordless_tree-all_wordless_trees-requires-in-Alternation
wordless_tree-all_wordless_trees-requires-in-Alternation t c =
    let is = ap alternation c.deref-in-Alternation.ensures.value ∙ sym (ap node c.in-Alternation.is) ∙ c.kind.ensures.is in
    (omega (arith, weight_of_either c.deref-in-Alternation.result.now, ap weight is), tt)

pub wordless_tree-returns-in_ok-all_wordless_trees-in-Concat : goal.wordless_tree-returns-in_ok-all_wordless_trees-in-Concat
wordless_tree-returns-in_ok-all_wordless_trees-in-Concat t c =
    let is = ap concat c.deref-in-Concat.ensures.value ∙ sym (ap node c.in-Concat.is) ∙ c.kind.ensures.is in
    c.concat.ensures ∙ ap concat c.in_ok-all_wordless_trees-in-Concat.ensures
    ∙ sym (wordless_of_concat c.deref-in-Concat.result.now) ∙ ap wordless_tree is

pub wordless_tree-returns-in_ok-all_wordless_trees-in-Alternation : goal.wordless_tree-returns-in_ok-all_wordless_trees-in-Alternation
wordless_tree-returns-in_ok-all_wordless_trees-in-Alternation t c =
    let is = ap alternation c.deref-in-Alternation.ensures.value ∙ sym (ap node c.in-Alternation.is) ∙ c.kind.ensures.is in
    c.alternation.ensures ∙ ap alternation c.in_ok-all_wordless_trees-in-Alternation.ensures
    ∙ sym (wordless_of_alternation c.deref-in-Alternation.result.now) ∙ ap wordless_tree is
