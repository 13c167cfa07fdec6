use Rattle.std.proofs.Common.{sym, ap, ◌∙◌, arith}
use Rattle.hir_core.specs.Tree.{alternation}
use Rattle.hir_core.specs.Node.{node}
use Rattle.hir_core.specs.Weight.{weight}
use Rattle.hir_core.proofs.ForCallers.{weight_in_concat, weight_of_either}
use Rattle.meta_regex.proofs.short_loops.+has_short_loops.Goals as goal

pub all_have_short_loops-has_short_loops-requires : goal.all_have_short_loops-has_short_loops-requires
all_have_short_loops-has_short_loops-requires t c = (
  omega (arith, weight_in_concat c.args.xs.now c.loop-x.x-index c.x-item.result c.loop-x-test.true, ap weight c.x-item.is),
  tt,
)

pub has_short_loops-all_have_short_loops-requires-in-Alternation : goal.has_short_loops-all_have_short_loops-requires-in-Alternation
has_short_loops-all_have_short_loops-requires-in-Alternation t c =
    let is = ap alternation c.deref-in-Alternation.ensures.value ∙ sym (ap node c.in-Alternation.is) ∙ c.kind.ensures.is in
    (omega (arith, weight_of_either c.deref-in-Alternation.result.now, ap weight is), tt)
