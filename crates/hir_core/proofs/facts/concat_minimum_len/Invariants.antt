use Rattle.std.proofs.Common.{◌≡◌}
use Rattle.hir_core.specs.Tree.{concat}
use Rattle.hir_core.specs.Facts.{minimum_len}
use Rattle.hir_core.specs.Backward.{met_backward}
use Rattle.hir_core.proofs.facts.concat_minimum_len.Given as goal

abbrev pub invariant-loop-sub : goal.invariant-loop-sub
invariant-loop-sub l = l.total ≡ minimum_len (concat (met_backward l.yielded))
