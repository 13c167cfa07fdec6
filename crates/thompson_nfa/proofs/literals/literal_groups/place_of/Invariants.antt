use Rattle.std.proofs.Common.{◌≡◌, ◌+◌, drop}
use Rattle.thompson_nfa.specs.LiteralGroups.{place_of}
use Rattle.thompson_nfa.proofs.literals.literal_groups.place_of.Given as goal

abbrev pub invariant-loop-other : goal.invariant-loop-other
invariant-loop-other l = (l.at ≡ l.other-index) × (l.other-index + place_of l.byte (drop l.other-index l.bytes) ≡ place_of l.byte l.bytes)
