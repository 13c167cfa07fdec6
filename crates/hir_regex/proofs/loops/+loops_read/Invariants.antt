use Rattle.std.proofs.Common.{◌≡◌, ◌+◌, ◌*◌, drop}
use Rattle.hir_core.specs.Tree.{concat, alternation}
use Rattle.hir_core.specs.Weight.{weight}
use Rattle.hir_regex.specs.Loops.{loops_read}
use Rattle.hir_regex.proofs.loops.+loops_read.Given as goal

abbrev pub decreases-loops_read : goal.decreases-loops_read
decreases-loops_read l = 2 * weight l.x.now + 1

abbrev pub decreases-all_read : goal.decreases-all_read
decreases-all_read l = 2 * weight (concat l.subs.now)

abbrev pub invariant-all_read-loop-sub : goal.invariant-all_read-loop-sub
invariant-all_read-loop-sub l =
    (loops_read (concat l.subs) ≡ loops_read (concat (drop l.sub-index l.subs)))
    × (loops_read (alternation l.subs) ≡ loops_read (alternation (drop l.sub-index l.subs)))
