use Rattle.std.proofs.Common.{◌≡◌}
use Rattle.hir_core.specs.Tree.{concat}
use Rattle.hir_core.specs.Facts.{look_set_prefix}
use Rattle.hir_core.specs.Backward.{met_backward}
use Rattle.hir_core.proofs.look_facts.concat_look_set_prefix.Given as goal

abbrev pub invariant-loop-sub : goal.invariant-loop-sub
invariant-loop-sub l = l.looks ≡ look_set_prefix (concat (met_backward l.yielded))
