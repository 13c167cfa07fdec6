use Rattle.std.proofs.Common.{◌-◌, ◌≤◌, length}
use Rattle.line_search.proofs.FeedLemmas.{NoneBefore}
use Rattle.line_search.proofs.feeds.feed_at.Given as goal

abbrev pub invariant-wide : goal.invariant-wide
invariant-wide l = (l.at ≤ length l.text) × NoneBefore l.text l.at

abbrev pub decreases-wide : goal.decreases-wide
decreases-wide l = length l.text - l.at
