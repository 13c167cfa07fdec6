use Rattle.std.proofs.Common.{◌≡◌, ◌+◌, ◌*◌, drop}
use Rattle.std.specs.List.{list_any}
use Rattle.hir_core.specs.Tree.{concat, alternation}
use Rattle.hir_core.specs.Weight.{weight}
use Rattle.line_trees.specs.LineTrees.{has_crlf}
use Rattle.line_trees.proofs.trees.+has_crlf.Given as goal

abbrev pub decreases-has_crlf : goal.decreases-has_crlf
decreases-has_crlf l = 2 * weight l.x.now + 1

abbrev pub decreases-any_has_crlf : goal.decreases-any_has_crlf
decreases-any_has_crlf l = 2 * weight (concat l.xs.now)

abbrev pub invariant-any_has_crlf-loop-x : goal.invariant-any_has_crlf-loop-x
invariant-any_has_crlf-loop-x l =
    (list_any has_crlf l.xs ≡ list_any has_crlf (drop l.x-index l.xs))
    × (has_crlf (concat l.xs) ≡ has_crlf (concat (drop l.x-index l.xs)))
    × (has_crlf (alternation l.xs) ≡ has_crlf (alternation (drop l.x-index l.xs)))
