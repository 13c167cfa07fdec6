use Rattle.std.proofs.Common.{◌≡◌}
use Rattle.hir_core.specs.Tree.{concat}
use Rattle.hir_core.specs.Facts.{maximum_len, look_set_suffix}
use Rattle.hir_core.specs.Backward.{met_backward}
use Rattle.hir_core.proofs.look_facts.concat_look_set_suffix.Given as goal

abbrev pub invariant-loop-sub : goal.invariant-loop-sub
invariant-loop-sub l =
    (l.looks ≡ look_set_suffix (concat (met_backward l.yielded)))
    × (l.maximum_len ≡ maximum_len (concat (met_backward l.yielded)))
