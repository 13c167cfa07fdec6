use Rattle.std.proofs.Common.{◌≤◌, map, take, length}
use Rattle.thompson_nfa.proofs.LiteralTries.LiteralStateLemmas.{ItemsTo}
use Rattle.thompson_nfa.proofs.literals.literal_states.add_node.Given as goal

abbrev pub invariant-loop-item : goal.invariant-loop-item
invariant-loop-item l = ItemsTo l.fn.builder l.builder l.names l.end (take l.item-index (map (λ x. x.items) l.items)) l.ways.items ×
    (l.item-index ≤ length l.items)
