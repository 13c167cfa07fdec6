use Rattle.std.proofs.Common.{sym, ap, ◌∙◌, arith}
use Rattle.hir_core.specs.Tree.{alternation}
use Rattle.hir_core.specs.Node.{node}
use Rattle.hir_core.specs.Weight.{weight}
use Rattle.hir_core.proofs.ForCallers.{weight_in_concat, weight_of_either}
use Rattle.hir_regex.proofs.loops.+loops_read.Goals as goal

pub all_read-loops_read-requires : goal.all_read-loops_read-requires
all_read-loops_read-requires t c = (
  omega (arith, weight_in_concat c.args.subs.now c.loop-sub.sub-index c.sub-item.result c.loop-sub-test.true, ap weight c.sub-item.is),
  tt,
)

pub loops_read-all_read-requires-in-Alternation : goal.loops_read-all_read-requires-in-Alternation
loops_read-all_read-requires-in-Alternation t c =
    let is = ap alternation c.deref-in-Alternation.ensures.value ∙ sym (ap node c.in-Alternation.is) ∙ c.kind.ensures.is in
    (omega (arith, weight_of_either c.deref-in-Alternation.result.now, ap weight is), tt)
