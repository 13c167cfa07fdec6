use Rattle.std.proofs.Common.{◌≡◌, ◌≤◌, ◌+◌, ◌-◌, length, drop}
use Rattle.thompson_nfa.specs.LiteralGroups.{texts, run_of}
use Rattle.thompson_nfa.proofs.literals.literal_groups.run_len.Given as goal

abbrev pub invariant-loop-len : goal.invariant-loop-len
invariant-loop-len l = (l.len ≤ length l.strings) × (l.len + run_of (texts (drop l.len l.strings)) ≡ run_of (texts l.strings))

abbrev pub decreases-loop-len : goal.decreases-loop-len
decreases-loop-len l = length l.strings - l.len
