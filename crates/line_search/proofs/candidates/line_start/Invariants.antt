use Rattle.std.proofs.Common.{◌-◌, ◌≤◌, length}
use Rattle.line_trees.specs.LineTrees.{HasNoFeedFrom}
use Rattle.line_search.proofs.candidates.line_start.Given as goal

abbrev pub invariant-loop-start : goal.invariant-loop-start
invariant-loop-start l = (l.start ≤ l.place) × (l.start ≤ length l.block) × HasNoFeedFrom l.block l.start l.place

abbrev pub decreases-loop-start : goal.decreases-loop-start
decreases-loop-start l = l.start - l.at
