use Rattle.std.proofs.Common.{◌≤◌, length, drop}
use Rattle.literal_search.specs.Literals.{ListsPrefixes}
use Rattle.literal_search.proofs.sets.cut.Given as goal

abbrev pub invariant-loop-n : goal.invariant-loop-n
invariant-loop-n l = (l.n ≤ length l.from) × ListsPrefixes (drop l.n l.from) l.short

abbrev pub decreases-loop-n : goal.decreases-loop-n
decreases-loop-n l = l.n
