use Rattle.std.proofs.Common.{map}
use Rattle.thompson_nfa.specs.LiteralGroups.{texts, strings_of_groups}
use Rattle.thompson_nfa.specs.LiteralLaid.{node_value}
use Rattle.thompson_nfa.proofs.LiteralTries.LiteralLaidLemmas.{NodesHeld, left_of}
use Rattle.thompson_nfa.proofs.literals.literal_nodes.nodes.Given as goal

abbrev pub invariant-loop-alloc : goal.invariant-loop-alloc
invariant-loop-alloc l = NodesHeld (map node_value l.nodes.items) (strings_of_groups (λ g. g.items) l.groups.items) (texts
    l.fn.strings.items)

abbrev pub decreases-loop-alloc : goal.decreases-loop-alloc
decreases-loop-alloc l = left_of (map node_value l.nodes.items) (strings_of_groups (λ g. g.items) l.groups.items)
