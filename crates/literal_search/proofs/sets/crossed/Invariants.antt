use Rattle.std.proofs.Common.{◌≤◌, length, drop}
use Rattle.literal_search.specs.Literals.{Crosses}
use Rattle.literal_search.proofs.sets.crossed.Given as goal

abbrev pub invariant-loop-n : goal.invariant-loop-n
invariant-loop-n l = (l.n ≤ length l.first) × Crosses (drop l.n l.first) l.second l.literals

abbrev pub decreases-loop-n : goal.decreases-loop-n
decreases-loop-n l = l.n
