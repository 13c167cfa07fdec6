use Rattle.std.proofs.Common.{◌≡◌, ◌++◌, length, reverse}
use Rattle.hirscan.specs.Words.{with_range}
use Rattle.hirscan.proofs.words.join_ranges.Given as goal

-- what is left to be met gives the rest of what all gives
abbrev pub invariant-loop-next : goal.invariant-loop-next
invariant-loop-next l =
    l.initial.before.items ++ with_range l.fn.range (reverse l.initial.ranges.items)
    ≡ l.before.items ++ with_range (l.low, l.high) (reverse l.ranges.items)

abbrev pub decreases-loop-next : goal.decreases-loop-next
decreases-loop-next l = length l.ranges.items
