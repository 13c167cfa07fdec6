use Rattle.std.proofs.Common.{◌≤◌, length, drop}
use Rattle.literal_search.specs.Literals.{KeepsAll}
use Rattle.literal_search.proofs.sets.append.Given as goal

abbrev pub invariant-loop-n : goal.invariant-loop-n
invariant-loop-n l = (l.n ≤ length l.more) × KeepsAll l.fn.literals l.literals × KeepsAll (drop l.n l.more) l.literals

abbrev pub decreases-loop-n : goal.decreases-loop-n
decreases-loop-n l = l.n
