use Rattle.std.proofs.Common.{◌≡◌, drop}
use Rattle.hir_core.specs.Facts.{longest_of}
use Rattle.hir_core.proofs.class_facts.longest_spelling.Given as goal

abbrev pub invariant-loop-range : goal.invariant-loop-range
invariant-loop-range l = longest_of 0 l.ranges ≡ longest_of l.longest (drop l.range-index l.ranges)
