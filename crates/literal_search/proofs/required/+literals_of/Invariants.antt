use Rattle.std.proofs.Common.{◌+◌, ◌*◌, ◌≤◌, length, drop}
use Rattle.hir_core.specs.Tree.{concat, alternation}
use Rattle.hir_core.specs.Weight.{weight}
use Rattle.literal_search.specs.Required.{IsRequired}
use Rattle.literal_search.proofs.required.+literals_of.Given as goal

abbrev pub decreases-literals_of : goal.decreases-literals_of
decreases-literals_of l = 2 * weight l.x.now + 1

abbrev pub decreases-of_concat : goal.decreases-of_concat
decreases-of_concat l = 2 * weight (concat l.xs.now)

abbrev pub decreases-of_alternation : goal.decreases-of_alternation
decreases-of_alternation l = 2 * weight (concat l.xs.now)

abbrev pub invariant-of_concat-loop-n : goal.invariant-of_concat-loop-n
invariant-of_concat-loop-n l = (l.n ≤ length l.xs) × IsRequired l.all (concat (drop l.n l.xs))

abbrev pub decreases-of_concat-loop-n : goal.decreases-of_concat-loop-n
decreases-of_concat-loop-n l = l.n

abbrev pub invariant-of_alternation-loop-n : goal.invariant-of_alternation-loop-n
invariant-of_alternation-loop-n l = (l.n ≤ length l.xs) × IsRequired l.all (alternation (drop l.n l.xs))

abbrev pub decreases-of_alternation-loop-n : goal.decreases-of_alternation-loop-n
decreases-of_alternation-loop-n l = l.n
