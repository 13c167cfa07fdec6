use Rattle.std.proofs.Common.{◌≡◌, ◌+◌, ◌*◌, drop}
use Rattle.hir_core.specs.Tree.{alternation, concat}
use Rattle.hir_core.specs.Weight.{weight}
use Rattle.meta_regex.specs.FirstBytes.{may_be_empty}
use Rattle.meta_regex.proofs.first_bytes.+may_be_empty.Given as goal

abbrev pub decreases-may_be_empty : goal.decreases-may_be_empty
decreases-may_be_empty l = 2 * weight l.x.now + 1

abbrev pub decreases-all_may_be_empty : goal.decreases-all_may_be_empty
decreases-all_may_be_empty l = 2 * weight (concat l.xs.now)

abbrev pub decreases-any_may_be_empty : goal.decreases-any_may_be_empty
decreases-any_may_be_empty l = 2 * weight (concat l.xs.now)

abbrev pub invariant-all_may_be_empty-loop-x : goal.invariant-all_may_be_empty-loop-x
invariant-all_may_be_empty-loop-x l = may_be_empty (concat l.xs) ≡ may_be_empty (concat (drop l.x-index l.xs))

abbrev pub invariant-any_may_be_empty-loop-x : goal.invariant-any_may_be_empty-loop-x
invariant-any_may_be_empty-loop-x l = may_be_empty (alternation l.xs) ≡ may_be_empty (alternation (drop l.x-index l.xs))
