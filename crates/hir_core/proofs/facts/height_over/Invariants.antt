use Rattle.std.proofs.Common.{◌≡◌}
use Rattle.hir_core.specs.Tree.{concat, alternation}
use Rattle.hir_core.specs.Facts.{height}
use Rattle.hir_core.specs.Backward.{met_backward}
use Rattle.hir_core.proofs.facts.height_over.Given as goal

abbrev pub invariant-loop-sub : goal.invariant-loop-sub
invariant-loop-sub l = (l.levels ≡ height (concat (met_backward l.yielded))) × (l.levels ≡ height (alternation (met_backward l.yielded)))
