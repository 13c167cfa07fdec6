use Rattle.std.proofs.Common.{◌≤◌, [], ◌∷◌, length, drop}
use Rattle.literal_search.specs.Literals.{Crosses, KeepsAll}
use Rattle.literal_search.proofs.sets.append_crossed.Given as goal

abbrev pub invariant-loop-n : goal.invariant-loop-n
invariant-loop-n l =
    (l.n ≤ length l.second) × KeepsAll l.fn.literals l.literals × Crosses (l.front ∷ []) (drop l.n l.second) l.literals

abbrev pub decreases-loop-n : goal.decreases-loop-n
decreases-loop-n l = l.n
