use Rattle.std.proofs.Common.{◌≡◌, ◌++◌, length, reverse}
use Rattle.hirscan.proofs.words.put_back.Given as goal

abbrev pub invariant-loop-last : goal.invariant-loop-last
invariant-loop-last l =
    l.initial.before.items ++ reverse l.initial.ranges.items ≡ l.before.items ++ reverse l.ranges.items

abbrev pub decreases-loop-last : goal.decreases-loop-last
decreases-loop-last l = length l.before.items
