use Rattle.std.proofs.Common.{◌≡◌, ◌+◌, ◌*◌, drop}
use Rattle.std.specs.List.{list_any}
use Rattle.hir_core.specs.Tree.{concat, alternation}
use Rattle.hir_core.specs.Weight.{weight}
use Rattle.line_trees.specs.LineTrees.{reads_feed}
use Rattle.line_trees.proofs.trees.+reads_feed.Given as goal

abbrev pub decreases-reads_feed : goal.decreases-reads_feed
decreases-reads_feed l = 2 * weight l.x.now + 1

abbrev pub decreases-any_reads_feed : goal.decreases-any_reads_feed
decreases-any_reads_feed l = 2 * weight (concat l.xs.now)

abbrev pub invariant-any_reads_feed-loop-x : goal.invariant-any_reads_feed-loop-x
invariant-any_reads_feed-loop-x l =
    (list_any reads_feed l.xs ≡ list_any reads_feed (drop l.x-index l.xs))
    × (reads_feed (concat l.xs) ≡ reads_feed (concat (drop l.x-index l.xs)))
    × (reads_feed (alternation l.xs) ≡ reads_feed (alternation (drop l.x-index l.xs)))
