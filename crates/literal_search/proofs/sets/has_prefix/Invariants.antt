use Rattle.std.proofs.Common.{◌≤◌, length}
use Rattle.literal_search.proofs.sets.has_prefix.Given as goal

abbrev pub invariant-loop-n : goal.invariant-loop-n
invariant-loop-n l = l.n ≤ length l.literals

abbrev pub decreases-loop-n : goal.decreases-loop-n
decreases-loop-n l = l.n
