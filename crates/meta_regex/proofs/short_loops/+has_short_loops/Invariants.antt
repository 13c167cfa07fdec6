use Rattle.std.proofs.Common.{◌+◌, ◌*◌}
use Rattle.hir_core.specs.Tree.{concat}
use Rattle.hir_core.specs.Weight.{weight}
use Rattle.meta_regex.proofs.short_loops.+has_short_loops.Given as goal

abbrev pub decreases-has_short_loops : goal.decreases-has_short_loops
decreases-has_short_loops l = 2 * weight l.x.now + 1

abbrev pub decreases-all_have_short_loops : goal.decreases-all_have_short_loops
decreases-all_have_short_loops l = 2 * weight (concat l.xs.now)
