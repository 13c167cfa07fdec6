use Rattle.std.proofs.Common.{◌≡◌, drop, reverse}
use Rattle.hirscan.specs.Words.{scalar_ranges}
use Rattle.hirscan.proofs.words.put_ranges.Given as goal

abbrev pub invariant-loop-i : goal.invariant-loop-i
invariant-loop-i l = reverse l.ranges.items ≡ scalar_ranges (drop l.i l.items)
