use Rattle.std.proofs.Common.{length, map}
use Rattle.thompson_nfa.specs.LiteralGroups.{texts, strings_of_groups}
use Rattle.thompson_nfa.proofs.LiteralTries.LiteralNodeLemmas.{Listing}
use Rattle.thompson_nfa.proofs.literals.literal_nodes.items.Given as goal

abbrev pub invariant-loop-rest : goal.invariant-loop-rest
invariant-loop-rest l = Listing l.first (strings_of_groups (λ g. g.items) l.fn.groups.items) (strings_of_groups (λ g. g.items)
    l.groups.items)
    (map (λ x. x.items) l.items.items) (texts l.rest) l.matched (texts l.strings)

abbrev pub decreases-loop-rest : goal.decreases-loop-rest
decreases-loop-rest l = length l.rest
