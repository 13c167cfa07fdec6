use Rattle.std.proofs.Common.{◌≡◌}
use Rattle.hir_core.specs.Facts.{capped, sequence_count}
use Rattle.hir_core.specs.Backward.{met_backward}
use Rattle.hir_core.proofs.class_facts.sequence_count.Given as goal

abbrev pub invariant-loop-range : goal.invariant-loop-range
invariant-loop-range l = l.sequences ≡ capped (sequence_count (met_backward l.yielded))
