use Rattle.std.proofs.Common.{◌≡◌}
use Rattle.hir_core.specs.Tree.{concat, alternation}
use Rattle.hir_core.specs.Facts.{look_set}
use Rattle.hir_core.specs.Backward.{met_backward}
use Rattle.hir_core.proofs.look_facts.all_looks.Given as goal

abbrev pub invariant-loop-sub : goal.invariant-loop-sub
invariant-loop-sub l = (l.looks ≡ look_set (concat (met_backward l.yielded))) × (l.looks ≡ look_set (alternation (met_backward l.yielded)))
