use Rattle.std.proofs.Common.{◌≡◌}
use Rattle.hir_core.specs.Facts.{least_spelling}
use Rattle.hir_core.specs.Backward.{met_backward}
use Rattle.hir_core.proofs.class_facts.least_spelling.Given as goal

abbrev pub invariant-loop-range : goal.invariant-loop-range
invariant-loop-range l = l.least ≡ least_spelling (met_backward l.yielded)
