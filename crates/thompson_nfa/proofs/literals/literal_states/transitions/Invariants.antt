use Rattle.std.proofs.Common.{◌≡◌, ◌++◌, map, drop, length}
use Rattle.nfa_core.specs.Transitions.{range_of}
use Rattle.thompson_nfa.specs.LiteralGroups.{LeadWithin}
use Rattle.thompson_nfa.specs.LiteralStates.{edge_ranges}
use Rattle.thompson_nfa.proofs.literals.literal_states.transitions.Given as goal

abbrev pub invariant-loop-edge : goal.invariant-loop-edge
invariant-loop-edge l = (map range_of l.all.items ++ edge_ranges l.names (drop l.edge-index l.edges) ≡ edge_ranges l.names l.edges) ×
    LeadWithin 0 (length l.names) (drop l.edge-index l.edges)
