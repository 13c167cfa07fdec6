use Rattle.std.proofs.Common.{◌≡◌, ◌+◌, ◌*◌, drop, true}
use Rattle.hir_core.specs.Tree.{concat, alternation}
use Rattle.hir_core.specs.Weight.{weight}
use Rattle.line_search.specs.LiteralLines.{has_string_at}
use Rattle.line_search.proofs.strings.+has_string_at.Given as goal

abbrev pub decreases-has_string_at : goal.decreases-has_string_at
decreases-has_string_at l = 2 * weight l.tree.now + 1

abbrev pub decreases-any_has_string_at : goal.decreases-any_has_string_at
decreases-any_has_string_at l = 2 * weight (concat l.trees.now)

abbrev pub invariant-any_has_string_at-loop-tree : goal.invariant-any_has_string_at-loop-tree
invariant-any_has_string_at-loop-tree l =
    has_string_at l.haystack l.at (alternation (drop l.tree-index l.trees)) ≡ true → has_string_at l.haystack l.at (alternation l.trees) ≡ true
