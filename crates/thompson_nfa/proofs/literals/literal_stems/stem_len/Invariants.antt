use Rattle.std.proofs.Common.{◌≤◌, ◌-◌, length, take}
use Rattle.thompson_nfa.specs.LiteralGroups.{texts}
use Rattle.thompson_nfa.specs.LiteralStems.{BeginAll}
use Rattle.thompson_nfa.proofs.literals.literal_stems.stem_len.Given as goal

abbrev pub invariant-loop-len : goal.invariant-loop-len
invariant-loop-len l = (l.len ≤ length l.first) × BeginAll (take l.len l.first) (texts l.strings)

abbrev pub decreases-loop-len : goal.decreases-loop-len
decreases-loop-len l = length l.first - l.len
