use Rattle.std.proofs.Common.{sym, ap, ◌∙◌, arith}
use Rattle.hir_core.specs.Tree.{alternation}
use Rattle.hir_core.specs.Node.{node}
use Rattle.hir_core.specs.Weight.{weight}
use Rattle.hir_core.proofs.ForCallers.{weight_in_concat, weight_of_either}
use Rattle.line_trees.proofs.trees.+reads_feed.Goals as goal

pub any_reads_feed-reads_feed-requires : goal.any_reads_feed-reads_feed-requires
any_reads_feed-reads_feed-requires t c = (
  omega (arith, weight_in_concat c.args.xs.now c.loop-x.x-index c.x-item.result c.loop-x-test.true, ap weight c.x-item.is),
  tt,
)

pub reads_feed-any_reads_feed-requires-in-Alternation : goal.reads_feed-any_reads_feed-requires-in-Alternation
reads_feed-any_reads_feed-requires-in-Alternation t c =
    let is = ap alternation c.deref-in-Alternation.ensures.value ∙ sym (ap node c.in-Alternation.is) ∙ c.kind.ensures.is in
    (omega (arith, weight_of_either c.deref-in-Alternation.result.now, ap weight is), tt)
