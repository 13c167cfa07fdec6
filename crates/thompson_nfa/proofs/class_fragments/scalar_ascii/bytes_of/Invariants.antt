use Rattle.std.proofs.Common.{◌≡◌, take}
use Rattle.thompson_nfa.proofs.class_fragments.scalar_ascii.bytes_of.Given as goal

abbrev pub invariant-loop-range : goal.invariant-loop-range
invariant-loop-range l = l.all.items ≡ take l.range-index l.ranges
