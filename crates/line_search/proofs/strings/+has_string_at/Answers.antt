use Rattle.std.proofs.Common.{sym, ap, ◌∙◌, arith}
use Rattle.hir_core.specs.Tree.{alternation}
use Rattle.hir_core.specs.Node.{node}
use Rattle.hir_core.specs.Weight.{weight}
use Rattle.hir_core.proofs.ForCallers.{weight_in_concat, weight_of_either}
use Rattle.line_search.proofs.strings.+has_string_at.Goals as goal

pub any_has_string_at-has_string_at-requires : goal.any_has_string_at-has_string_at-requires
any_has_string_at-has_string_at-requires t c = (
  omega (arith, weight_in_concat c.args.trees.now c.loop-tree.tree-index c.tree-item.result c.loop-tree-test.true, ap weight c.tree-item.is),
  c.requires,
)

pub has_string_at-any_has_string_at-requires : goal.has_string_at-any_has_string_at-requires
has_string_at-any_has_string_at-requires t c =
    let is = ap alternation c.deref-in-Alternation.ensures.value ∙ sym (ap node c.in-Alternation.is) ∙ c.kind.ensures.is in
    (omega (arith, weight_of_either c.deref-in-Alternation.result.now, ap weight is), c.requires)
