use Rattle.std.proofs.Common.{◌≡◌, ◌≤◌, drop}
use Rattle.hir_core.specs.Facts.{is_ascending, rises_from}
use Rattle.hir_core.proofs.ranges.is_ascending.Given as goal

abbrev pub invariant-loop-range : goal.invariant-loop-range
invariant-loop-range l = (is_ascending l.ranges ≡ rises_from l.low (drop l.range-index l.ranges)) × (l.low ≤ 256)
