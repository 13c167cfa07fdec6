use Rattle.std.proofs.Common.{arith, length, map}
use Rattle.std.proofs.lemmas.List.{length-map}
use Rattle.thompson_nfa.specs.LiteralGroups.{texts, strings_of_groups}
use Rattle.thompson_nfa.specs.LiteralLaid.{node_value}
use Rattle.thompson_nfa.proofs.LiteralTries.LiteralGroupLemmas.{group_count}
use Rattle.thompson_nfa.proofs.LiteralTries.LiteralLaidLemmas.{held_some, next_held}
use Rattle.thompson_nfa.proofs.literals.literal_nodes.nodes.Goals as goal

pub lay_next-requires-clause-some : goal.lay_next-requires-clause-some
lay_next-requires-clause-some c =
    held_some (map node_value c.loop-alloc.nodes.items)
    (strings_of_groups (λ g. g.items) c.loop-alloc.groups.items) (texts c.args.strings.items)
    c.loop-alloc.invariant (length c.loop-alloc.nodes.items) (omega (arith, length-map c.loop-alloc.nodes.items node_value))
    (omega (arith, c.loop-alloc-test.true, group_count (λ g. g.items) c.loop-alloc.groups.items))

pub loop-alloc-smaller : goal.loop-alloc-smaller
loop-alloc-smaller c =
    (next_held (map node_value c.loop-alloc.nodes.items) (strings_of_groups (λ g. g.items) c.loop-alloc.groups.items)
    (texts c.args.strings.items) _ _ (length c.loop-alloc.nodes.items)
    c.loop-alloc.invariant (omega (arith, length-map c.loop-alloc.nodes.items node_value))
    (omega (arith, c.loop-alloc-test.true, group_count (λ g. g.items) c.loop-alloc.groups.items)) c.in_ok-lay_next.ensures).1

pub loop-alloc-preserved : goal.loop-alloc-preserved
loop-alloc-preserved c =
    (next_held (map node_value c.loop-alloc.nodes.items) (strings_of_groups (λ g. g.items) c.loop-alloc.groups.items)
    (texts c.args.strings.items) _ _ (length c.loop-alloc.nodes.items)
    c.loop-alloc.invariant (omega (arith, length-map c.loop-alloc.nodes.items node_value))
    (omega (arith, c.loop-alloc-test.true, group_count (λ g. g.items) c.loop-alloc.groups.items)) c.in_ok-lay_next.ensures).0
