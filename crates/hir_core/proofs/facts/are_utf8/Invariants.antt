use Rattle.std.proofs.Common.{◌≡◌}
use Rattle.hir_core.specs.Tree.{concat, alternation}
use Rattle.hir_core.specs.Facts.{is_utf8_tree}
use Rattle.hir_core.specs.Backward.{met_backward}
use Rattle.hir_core.proofs.facts.are_utf8.Given as goal

abbrev pub invariant-loop-sub : goal.invariant-loop-sub
invariant-loop-sub l =
    (l.all ≡ is_utf8_tree (concat (met_backward l.yielded))) × (l.all ≡ is_utf8_tree (alternation (met_backward l.yielded)))
