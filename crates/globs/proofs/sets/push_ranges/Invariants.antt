use Rattle.std.proofs.Common.{◌≡◌, ◌++◌, take}
use Rattle.globs.proofs.sets.push_ranges.Given as goal

abbrev pub invariant-loop-range : goal.invariant-loop-range
invariant-loop-range l = l.ranges.items ≡ l.initial.ranges.items ++ take l.range-index l.more
