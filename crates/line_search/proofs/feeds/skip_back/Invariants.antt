use Rattle.std.proofs.Common.{◌≤◌}
use Rattle.line_trees.specs.LineTrees.{HasNoFeedFrom}
use Rattle.line_search.proofs.feeds.skip_back.Given as goal

abbrev pub invariant-wide : goal.invariant-wide
invariant-wide l = (l.start ≤ l.place) × (l.low ≤ l.place) × HasNoFeedFrom l.text l.start l.place

abbrev pub decreases-wide : goal.decreases-wide
decreases-wide l = l.start
