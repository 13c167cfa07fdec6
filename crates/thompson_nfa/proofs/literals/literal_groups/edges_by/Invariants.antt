use Rattle.std.proofs.Common.{◌≡◌, ◌++◌, ◌+◌, drop}
use Rattle.thompson_nfa.specs.LiteralGroups.{edges_by}
use Rattle.thompson_nfa.proofs.literals.literal_groups.edges_by.Given as goal

abbrev pub invariant-loop-i : goal.invariant-loop-i
invariant-loop-i l = l.edges.items ++ edges_by (l.first + l.i) (drop l.i l.bytes) ≡ edges_by l.first l.bytes
